use Rattle.cdl_walk.specs.Faults.{seen}
use Rattle.cdl_walk.specs.Places.{here}
use Rattle.cdl_walk.specs.Stations.{block_station}
use Rattle.cdl_walk.proofs.Numbering.{settled_deeper}
use Rattle.cdl_walk.proofs.Steps.{kind_fault, kind_runs}
use Rattle.cdl_walk.proofs.walking.kind_instance.Goals as goal

pub returns-in-Err-clause-runs : goal.returns-in-Err-clause-runs
returns-in-Err-clause-runs c = kind_fault c.args.e.now (here c.args.place.now) c.args.kind c.args.walked.now (seen c.in-Err.fault) c.in-Err.ensures.takes

pub returns-clause-deeper : goal.returns-clause-deeper
returns-clause-deeper c = settled_deeper _ (here c.args.place.now) c.args.kind (block_station c.args.e.now (here c.args.place.now) c.args.kind) c.settle_kind.result c.args.walked.now c.settle_kind.new.walked c.in-Ok.ensures.room c.settle_kind.ensures.takes

pub returns-clause-runs : goal.returns-clause-runs
returns-clause-runs c = kind_runs _ c.args.e.now (here c.args.place.now) c.args.kind c.args.walked.now c.args.walked.now c.settle_kind.new.walked c.settle_kind.result c.in-Ok.ensures.takes c.settle_kind.ensures.takes
