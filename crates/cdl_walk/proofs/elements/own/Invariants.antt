use Rattle.std.proofs.Common.{◌≡◌, ◌++◌, map}
use Rattle.cdl_walk.specs.Elements as spec
use Rattle.cdl_walk.proofs.elements.own.Given as goal

abbrev pub invariant-loop-point : goal.invariant-loop-point
invariant-loop-point l = l.elements ≡ l.fn.elements ++ map (spec.owned l.instance) l.yielded
