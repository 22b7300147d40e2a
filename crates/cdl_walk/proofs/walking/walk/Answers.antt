use Rattle.std.proofs.Common.{length}
use Rattle.cdl_walk.specs.Places.{here}
use Rattle.cdl_walk.proofs.Counts.{root_found, root_fault, root_few}
use Rattle.cdl_walk.proofs.Owners.{root_all, root_fine}
use Rattle.cdl_walk.proofs.walking.walk.Goals as goal

pub returns-in-Ok-clause-judges : goal.returns-in-Ok-clause-judges
returns-in-Ok-clause-judges c = root_found c.args.e.now (here c.at_root-place.result) c.root-root.result c.nothing-walked.result c.block.new.walked
    c.at_root-place.ensures.here c.root-root.ensures c.nothing-walked.ensures c.in-Ok.ensures.runs

pub returns-clause-judges : goal.returns-clause-judges
returns-clause-judges c = root_fault c.args.e.now (here c.at_root-place.result) c.root-root.result c.nothing-walked.result c.in-Err.fault
    c.at_root-place.ensures.here c.root-root.ensures c.nothing-walked.ensures c.in-Err.ensures.runs

pub returns-in-Ok-clause-all : goal.returns-in-Ok-clause-all
returns-in-Ok-clause-all c = root_all c.args.e.now (here c.at_root-place.result) c.root-root.result c.nothing-walked.result c.block.new.walked
    c.at_root-place.ensures.here c.root-root.ensures c.nothing-walked.ensures c.in-Ok.ensures.runs

pub returns-in-Ok-clause-fine : goal.returns-in-Ok-clause-fine
returns-in-Ok-clause-fine c = root_fine c.args.e.now (here c.at_root-place.result) c.root-root.result c.nothing-walked.result c.block.new.walked
    c.at_root-place.ensures.here c.root-root.ensures c.nothing-walked.ensures c.in-Ok.ensures.runs

pub returns-in-Ok-clause-few : goal.returns-in-Ok-clause-few
returns-in-Ok-clause-few c = root_few c.args.e.now (here c.at_root-place.result) c.root-root.result (length c.at_root-place.result.path.steps) c.nothing-walked.result c.block.new.walked
    c.at_root-place.ensures.here c.root-root.ensures c.nothing-walked.ensures c.in-Ok.ensures.runs c.in-Ok.ensures.deeper
