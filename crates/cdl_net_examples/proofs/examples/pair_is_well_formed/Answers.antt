use Rattle.cdl_net_examples.proofs.Pair.{pair_back, pair_formed, pair_unbroken}
use Rattle.cdl_net_examples.proofs.examples.pair_is_well_formed.Goals as goal

pub returns : goal.returns
returns c = record { well_formed = pair_formed; unbroken = pair_unbroken; read_back = pair_back }
