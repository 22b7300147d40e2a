use Rattle.cdl_schedule.proofs.Loops.{loop_inside, loop_named}
use Rattle.cdl_schedule.proofs.plans.fault_of.Goals as goal

pub bounds-items-vertex : goal.bounds-items-vertex
bounds-items-vertex c = loop_inside c.args.net.now c.in-Loop.vertex c.args.fault c.items.result.now c.requires.checked c.in-Loop.is c.requires.fault c.items.ensures

pub bounds-items-vertex-in-Loop : goal.bounds-items-vertex-in-Loop
bounds-items-vertex-in-Loop c = loop_inside c.args.net.now c.in-Loop.vertex c.args.fault c.items.result.now c.requires.checked c.in-Loop.is c.requires.fault c.items.ensures

pub returns-in-Loop : goal.returns-in-Loop
returns-in-Loop c = loop_named c.args.net.now c.in-Loop.vertex c.args.fault c.items.result.now c.index-items-vertex.result c.requires.checked c.in-Loop.is c.requires.fault c.items.ensures
