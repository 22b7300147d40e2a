use Rattle.std.proofs.Common.{◌≡◌, map, take}
use Rattle.cdl_run.proofs.layout.types_in.Given as goal

abbrev pub invariant-loop-x : goal.invariant-loop-x
invariant-loop-x l = l.types.items ≡ map (λ e. e.value_type) (take l.x l.elements)
