use Rattle.std.proofs.Common.{◌≡◌, ◌≤◌, ◌*◌, ◌+ℤ◌, unsigned_abs, drop}
use Rattle.cdl_decimal.specs.Counts.{total}
use Rattle.cdl_discrete.proofs.moving_mean.sum_of.Given as goal

abbrev pub invariant-loop-i : goal.invariant-loop-i
invariant-loop-i l = record {
  so_far : l.sum +ℤ total (drop l.i l.counts) ≡ total l.counts;
  small : unsigned_abs l.sum ≤ 10000000000000000 * l.i;
}
