use Rattle.std.proofs.Common.{◌≡◌, ◌∷◌, drop}
use Rattle.cdl_values.specs.Extremes.{least}
use Rattle.cdl_array.specs.Functions.{counts_in}
use Rattle.cdl_array.proofs.functions.least_of.Given as goal

abbrev pub invariant-loop-i : goal.invariant-loop-i
invariant-loop-i l = least (l.best ∷ counts_in l.value_type (drop l.i l.items)) ≡ least (counts_in l.value_type l.items)
