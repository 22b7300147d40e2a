use Rattle.std.proofs.Common.{◌≡◌, take}
use Rattle.cdl_array.specs.Literals.{items_as}
use Rattle.cdl_array.proofs.literals.all_items.Given as goal

abbrev pub invariant-loop-array : goal.invariant-loop-array
invariant-loop-array l = l.items ≡ items_as l.value_type (take l.array-index l.arrays)
