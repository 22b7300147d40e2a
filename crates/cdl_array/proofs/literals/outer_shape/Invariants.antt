use Rattle.std.proofs.Common.{◌≡◌, ◌∷◌, take}
use Rattle.cdl_array.proofs.literals.outer_shape.Given as goal

abbrev pub invariant-loop-size : goal.invariant-loop-size
invariant-loop-size l = l.outer ≡ l.count ∷ take l.size-index l.shape
