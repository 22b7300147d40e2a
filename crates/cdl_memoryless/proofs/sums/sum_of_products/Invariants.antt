use Rattle.std.proofs.Common.{◌≡◌, ◌≤◌, ◌*◌, ◌+ℤ◌, unsigned_abs, drop, map}
use Rattle.cdl_decimal.specs.Counts.{dot}
use Rattle.cdl_values.specs.Values.{integer_of}
use Rattle.cdl_memoryless.proofs.sums.sum_of_products.Given as goal

abbrev pub invariant-loop-i : goal.invariant-loop-i
invariant-loop-i l = record {
  so_far : l.sum +ℤ dot (map integer_of (drop l.i l.factors)) (drop l.i l.words) ≡ dot (map integer_of l.factors) l.words;
  small : unsigned_abs l.sum ≤ 4611686018427387904 * l.i;
}
