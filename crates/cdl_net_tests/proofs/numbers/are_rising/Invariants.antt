use Rattle.cdl_net_tests.specs.Fine.{AreRising}
use Rattle.cdl_net_tests.proofs.numbers.are_rising.Given as goal

abbrev pub invariant-loop-x : goal.invariant-loop-x
invariant-loop-x l = AreRising l.net l.x
