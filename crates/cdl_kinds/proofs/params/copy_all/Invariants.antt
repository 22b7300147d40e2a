use Rattle.std.proofs.Common.{◌≡◌, take}
use Rattle.cdl_kinds.proofs.params.copy_all.Given as goal

abbrev pub invariant-loop-array : goal.invariant-loop-array
invariant-loop-array l = l.copy ≡ take l.array-index l.arrays
