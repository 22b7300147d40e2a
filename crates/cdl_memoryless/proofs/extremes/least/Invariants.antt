use Rattle.std.proofs.Common.{◌≡◌, ◌∷◌, drop}
use Rattle.cdl_decimal.specs.Near.{InRange}
use Rattle.cdl_values.specs.Extremes.{least}
use Rattle.cdl_memoryless.proofs.extremes.least.Given as goal

abbrev pub invariant-loop-i : goal.invariant-loop-i
invariant-loop-i l = record {
  so_far : least (l.best ∷ drop l.i l.words) ≡ least l.words;
  range : InRange l.best;
}
