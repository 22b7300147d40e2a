use Rattle.std.proofs.Common.{◌≡◌, ◌++◌}
use Rattle.cdl_statements.proofs.net.join.Given as goal

abbrev pub invariant-loop-wire : goal.invariant-loop-wire
invariant-loop-wire l = l.wires ≡ l.fn.wires ++ l.yielded
