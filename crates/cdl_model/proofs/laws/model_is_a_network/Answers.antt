use Rattle.std.proofs.Common.{[]}
use Rattle.cdl_network.proofs.Accepted.{accepted_solution}
use Rattle.cdl_network.proofs.Solving.{one_fault, same_past}
use Rattle.cdl_model.specs.Networks.{network}
use Rattle.cdl_model.proofs.Corresponding.{model_closed, model_shaped, model_direct}
use Rattle.cdl_model.proofs.laws.model_is_a_network.Goals as goal

pub returns-clause-closed : goal.returns-clause-closed
returns-clause-closed c w u d = model_closed w u d

pub returns-clause-shaped : goal.returns-clause-shaped
returns-clause-shaped c w u d = model_shaped w u d

pub returns-clause-direct : goal.returns-clause-direct
returns-clause-direct c u = model_direct u

pub returns-clause-solution : goal.returns-clause-solution
returns-clause-solution c w u ts d a = accepted_solution (network u) ts (model_closed w u d) (model_shaped w u d) (model_direct u) a

pub returns-clause-fault : goal.returns-clause-fault
returns-clause-fault c w u ts vs ws d a = one_fault (network u) ts [] [] vs ws (model_closed w u d) (same_past (network u) []) a
