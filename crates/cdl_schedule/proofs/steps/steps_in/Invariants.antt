use Rattle.cdl_schedule.specs.inner.Passed.{Passed}
use Rattle.cdl_schedule.proofs.steps.steps_in.Given as goal

abbrev pub invariant-loop-t : goal.invariant-loop-t
invariant-loop-t l = Passed l.net l.order l.t l.steps.items
