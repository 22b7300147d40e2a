use Rattle.std.proofs.Common.{◌≡◌, ◌++◌, drop}
use Rattle.cdl_statements.specs.inner.Seen as spec
use Rattle.cdl_statements.proofs.net.wires_between.Given as goal

abbrev pub invariant-loop-i : goal.invariant-loop-i
invariant-loop-i l = l.wires ++ spec.raw_pairs l.scope (drop l.i l.left) (drop l.i l.right) ≡ spec.raw_pairs l.scope l.left l.right
