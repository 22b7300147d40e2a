use Rattle.std.proofs.Common.{◌≡◌, take}
use Rattle.cdl_values.proofs.value.copy_shape.Given as goal

abbrev pub invariant-loop-size : goal.invariant-loop-size
invariant-loop-size l = l.copy ≡ take l.size-index l.shape
