use Rattle.cdl_connect.specs.Faults.{FineElements}
use Rattle.cdl_connect.proofs.check.count_sinks.Given as goal

abbrev pub invariant-loop-x : goal.invariant-loop-x
invariant-loop-x l = FineElements l.net l.x
