use Rattle.std.proofs.Common.{refl}
use Rattle.cdl_schedule.proofs.Listing.{listed_next}
use Rattle.cdl_schedule.proofs.plans.instances_in.Goals as goal

pub loop-t-preserved : goal.loop-t-preserved
loop-t-preserved c = listed_next c.args.net.now c.loop-t.t _ c.args.order.now c.loop-t.list.items c.list_vertex.new.list.items c.requires.order c.loop-t.invariant c.loop-t-test.true refl c.in_ok-list_vertex.ensures
