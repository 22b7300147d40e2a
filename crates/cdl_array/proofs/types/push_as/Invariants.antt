use Rattle.std.proofs.Common.{◌≡◌, ◌++◌, take}
use Rattle.cdl_array.specs.Types.{values_as}
use Rattle.cdl_array.proofs.types.push_as.Given as goal

abbrev pub invariant-loop-value : goal.invariant-loop-value
invariant-loop-value l = l.items ≡ l.fn.items ++ values_as l.value_type (take l.value-index l.values)
