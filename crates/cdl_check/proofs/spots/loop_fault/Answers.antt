use Rattle.cdl_check.proofs.FirstRule.{loop_inside, loop_refused}
use Rattle.cdl_check.proofs.spots.loop_fault.Goals as goal

pub instance_path-requires : goal.instance_path-requires
instance_path-requires c = loop_inside c.args.net.now c.in-Loop.instance (rw c.in-Loop.is at c.requires.fault)

pub returns-in_ok-path-in-Loop : goal.returns-in_ok-path-in-Loop
returns-in_ok-path-in-Loop c = loop_refused c.args.net.now c.in-Loop.instance c.in_ok-path-in-Loop.path c.requires.unbroken (rw c.in-Loop.is at c.requires.fault) c.in_ok-path-in-Loop.ensures
