use Rattle.std.proofs.Common.{◌≡◌, ◌∷◌, drop}
use Rattle.cdl_values.specs.Extremes.{greatest}
use Rattle.cdl_array.specs.Functions.{counts_in}
use Rattle.cdl_array.proofs.functions.greatest_of.Given as goal

abbrev pub invariant-loop-i : goal.invariant-loop-i
invariant-loop-i l = greatest (l.best ∷ counts_in l.value_type (drop l.i l.items)) ≡ greatest (counts_in l.value_type l.items)
