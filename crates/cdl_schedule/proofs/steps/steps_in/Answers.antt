use Rattle.std.proofs.Common.{refl}
use Rattle.cdl_schedule.proofs.Passing.{inputs_start, passed_next}
use Rattle.cdl_schedule.proofs.steps.steps_in.Goals as goal

pub loop-t-init : goal.loop-t-init
loop-t-init c = inputs_start c.args.net.now c.args.order.now c.in_ok-steps.steps.items c.in_ok-steps.ensures

pub loop-t-preserved : goal.loop-t-preserved
loop-t-preserved c = passed_next c.args.net.now c.args.sources.now c.args.order.now c.loop-t.t _ c.loop-t.steps.items c.add_step.new.steps.items c.requires.checked c.requires.sources c.requires.order c.loop-t.invariant c.loop-t-test.true refl c.in_ok-add_step.ensures
