use Rattle.cdl_pass.specs.Absorb.{AreStateful}
use Rattle.cdl_pass.proofs.stateful.stateful_in.Given as goal

abbrev pub invariant-loop-j : goal.invariant-loop-j
invariant-loop-j l = AreStateful l.nodes l.j l.stateful.items
