use Rattle.cdl_network.proofs.WellFormed.{closed_there, shaped_there, planned_back}
use Rattle.cdl_network.proofs.well_formed_there.Goals as goal

pub returns-clause-closed : goal.returns-clause-closed
returns-clause-closed g d a b m n c r = closed_there a b m n c r

pub returns-clause-shaped : goal.returns-clause-shaped
returns-clause-shaped g d a b m n c z r t u = shaped_there a b m n c z r t u

pub returns-clause-planned : goal.returns-clause-planned
returns-clause-planned g d a b m n top c r p = planned_back a b m n top c r p
