use Rattle.std.proofs.Common.{subst}
use Rattle.cdl_stations.specs.Runs.{Went, StopsAt}
use Rattle.cdl_statements.specs.Directory.{Directory}
use Rattle.cdl_statements.specs.Events.{Made, step}
use Rattle.cdl_statements.specs.Judges.{StandForAll}
use Rattle.cdl_statements.specs.Stations.{InModel}
use Rattle.cdl_statements.specs.inner.Seen.{made, tells}
use Rattle.cdl_statements.proofs.Counts.{judges_fault, judges_wires, stand_for_all}
use Rattle.cdl_statements.proofs.Standing.{all_instances}
use Rattle.cdl_statements.proofs.running.statements.Goals as goal

pub all-requires : goal.all-requires
all-requires c = all_instances c.args.e.now c.args.instances.now c.args.elements.now c.in-Ok.directory c.requires c.in-Ok.ensures

pub returns-in-Ok-all-clause-judges : goal.returns-in-Ok-all-clause-judges
returns-in-Ok-all-clause-judges c = judges_wires (InModel c.args.e.now c.args.instances.now) c.all.new.net.wires (made c.in-Ok.directory c.all.new.net)
    (subst (λ (m : Made). Went step (InModel c.args.e.now c.args.instances.now) m (made c.in-Ok.directory c.all.new.net)) (c.nothing-net.ensures c.in-Ok.directory) c.in-Ok-all.ensures.runs)

pub returns-in-Ok-all-clause-wires : goal.returns-in-Ok-all-clause-wires
returns-in-Ok-all-clause-wires c = subst (λ (d : Directory). StandForAll (InModel c.args.e.now c.args.instances.now) d c.all.new.net.wires) c.in-Ok.ensures
    (stand_for_all (InModel c.args.e.now c.args.instances.now) c.in-Ok.directory c.all.new.net
    (subst (λ (m : Made). Went step (InModel c.args.e.now c.args.instances.now) m (made c.in-Ok.directory c.all.new.net)) (c.nothing-net.ensures c.in-Ok.directory) c.in-Ok-all.ensures.runs))

pub returns-clause-judges : goal.returns-clause-judges
returns-clause-judges c = judges_fault (InModel c.args.e.now c.args.instances.now) c.in-Err.fault
    (subst (λ (m : Made). StopsAt step (InModel c.args.e.now c.args.instances.now) m (tells c.in-Err.fault)) (c.nothing-net.ensures c.in-Ok.directory) c.in-Err.ensures.runs)
