use Rattle.cdl_run_tests.specs.Kept.{AreKept}
use Rattle.cdl_run_tests.proofs.builder.net_of.Given as goal

abbrev pub invariant-loop-word : goal.invariant-loop-word
invariant-loop-word l = AreKept l.net.instances
