use Rattle.std.proofs.Common.{◌≡◌, ◌≤◌, ◌*◌, ◌+ℤ◌, unsigned_abs, drop}
use Rattle.cdl_decimal.specs.Counts.{dot}
use Rattle.cdl_decimal.proofs.real.sum_of_products.Given as goal

abbrev pub invariant-loop-i : goal.invariant-loop-i
invariant-loop-i l = record {
  so_far : l.sum +ℤ dot (drop l.i l.k) (drop l.i l.u) ≡ dot l.k l.u;
  small : unsigned_abs l.sum ≤ 100000000000000000000000000000000 * l.i;
}
