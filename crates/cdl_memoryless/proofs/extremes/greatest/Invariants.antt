use Rattle.std.proofs.Common.{◌≡◌, ◌∷◌, drop}
use Rattle.cdl_decimal.specs.Near.{InRange}
use Rattle.cdl_values.specs.Extremes.{greatest}
use Rattle.cdl_memoryless.proofs.extremes.greatest.Given as goal

abbrev pub invariant-loop-i : goal.invariant-loop-i
invariant-loop-i l = record {
  so_far : greatest (l.best ∷ drop l.i l.words) ≡ greatest l.words;
  range : InRange l.best;
}
