use Rattle.std.proofs.Common.{[]}
use Rattle.cdl_connect.specs.Nets.{network_of}
use Rattle.cdl_network.proofs.Renaming.{solves_back, solves_there, fault_back}
use Rattle.cdl_model.specs.Networks.{network}
use Rattle.cdl_model.specs.NetOf.{instance_number, element_number}
use Rattle.cdl_model.proofs.Corresponding.{model_closed, unfolded_renamed}
use Rattle.cdl_model.proofs.laws.solutions_are_the_nets.Goals as goal

pub returns-clause-there : goal.returns-clause-there
returns-clause-there c w u n ts vs d r h = solves_there (instance_number u.instances) (element_number u.elements) (network u) (network_of n) ts [] vs (model_closed w u d) (unfolded_renamed w u n d r) h

pub returns-clause-back : goal.returns-clause-back
returns-clause-back c w u n ts vs d r h = solves_back (instance_number u.instances) (element_number u.elements) (network u) (network_of n) ts [] vs (model_closed w u d) (unfolded_renamed w u n d r) h

pub returns-clause-fault : goal.returns-clause-fault
returns-clause-fault c w u n ts vs d r = fault_back (instance_number u.instances) (element_number u.elements) (network u) (network_of n) ts [] vs (model_closed w u d) (unfolded_renamed w u n d r)
