use Rattle.cdl_net_tests.specs.Fine.{AreOwn}
use Rattle.cdl_net_tests.proofs.numbers.are_own.Given as goal

abbrev pub invariant-loop-x : goal.invariant-loop-x
invariant-loop-x l = AreOwn l.net l.i l.first l.x
