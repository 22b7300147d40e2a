use Rattle.std.proofs.Common.{◌≡◌, ◌≤◌, ◌*◌, ◌+ℤ◌, unsigned_abs, drop}
use Rattle.cdl_decimal.specs.Counts.{total}
use Rattle.cdl_array.specs.Functions.{counts_in}
use Rattle.cdl_array.proofs.functions.total_of.Given as goal

abbrev pub invariant-loop-i : goal.invariant-loop-i
invariant-loop-i l = record {
  so_far : l.sum +ℤ total (counts_in l.value_type (drop l.i l.items)) ≡ total (counts_in l.value_type l.items);
  small : unsigned_abs l.sum ≤ 10000000000000000 * l.i;
}
