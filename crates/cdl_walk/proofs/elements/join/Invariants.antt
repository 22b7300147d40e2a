use Rattle.std.proofs.Common.{◌≡◌, ◌++◌}
use Rattle.cdl_walk.proofs.elements.join.Given as goal

abbrev pub invariant-loop-point : goal.invariant-loop-point
invariant-loop-point l = l.points ≡ l.fn.points ++ l.yielded
