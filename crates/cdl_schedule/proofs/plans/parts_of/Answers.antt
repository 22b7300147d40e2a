use Rattle.cdl_schedule.proofs.Listing.{order_read}
use Rattle.cdl_schedule.proofs.plans.parts_of.Goals as goal

pub parts_in-requires-clause-order : goal.parts_in-requires-clause-order
parts_in-requires-clause-order c = order_read c.args.net.now _ _ c.in-Ok-ordered.ensures.order c.as_slice.ensures.value
