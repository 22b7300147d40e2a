use Rattle.cdl_schedule.proofs.Listing.{plan_of}
use Rattle.cdl_schedule.proofs.Passing.{pass_of}
use Rattle.cdl_schedule.proofs.plans.parts_in.Goals as goal

pub returns-clause-plan : goal.returns-clause-plan
returns-clause-plan c = plan_of c.args.net.now c.args.order.now c.in_ok-list.list.items c.requires.checked c.requires.order c.in_ok-list.ensures

pub returns-clause-pass : goal.returns-clause-pass
returns-clause-pass c = pass_of c.args.net.now c.args.order.now c.in_ok-steps.steps.items c.requires.checked c.requires.order c.in_ok-steps.ensures
