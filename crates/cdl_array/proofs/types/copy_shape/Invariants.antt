use Rattle.std.proofs.Common.{◌≡◌, take}
use Rattle.cdl_array.proofs.types.copy_shape.Given as goal

abbrev pub invariant-loop-size : goal.invariant-loop-size
invariant-loop-size l = l.shape ≡ take l.size-index l.sizes
