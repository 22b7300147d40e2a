use Rattle.cdl_network.proofs.Accepted.{accepted_solution}
use Rattle.cdl_network.proofs.accepted_has_one.Goals as goal

pub returns : goal.returns
returns g c n ts d z u a = accepted_solution n ts d z u a
