use Rattle.cdl_search.proofs.Ordering.{ended_order, no_loop}
use Rattle.cdl_search.proofs.order.order_of.Goals as goal

pub returns-in-None-clause-order : goal.returns-in-None-clause-order
returns-in-None-clause-order c = ended_order c.args.first.now c.args.edges.now _ c.in-Ok.search c.search_all.new.s c.in-Ok.ensures c.in-Ok-search_all.ensures.found c.in-Ok-search_all.ensures.all c.in-None.ensures.none

pub returns-in-None-clause-none : goal.returns-in-None-clause-none
returns-in-None-clause-none c = no_loop c.args.first.now c.args.edges.now _ c.in-Ok.search c.search_all.new.s c.in-Ok.ensures c.in-Ok-search_all.ensures.found c.in-None.ensures.none
