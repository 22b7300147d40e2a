use Rattle.std.proofs.Common.{refl}
use Rattle.cdl_net_examples.proofs.Negation.{negation_back, negation_formed, negation_unbroken}
use Rattle.cdl_net_examples.proofs.examples.negation_is_well_formed.Goals as goal

pub returns : goal.returns
returns c = record { well_formed = negation_formed; unbroken = negation_unbroken; graph = refl; read_back = negation_back }
