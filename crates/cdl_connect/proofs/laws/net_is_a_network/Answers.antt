use Rattle.cdl_connect.proofs.Networks.{net_closed, net_shaped, well_formed_indexed}
use Rattle.cdl_connect.proofs.laws.net_is_a_network.Goals as goal

pub returns-clause-indexed : goal.returns-clause-indexed
returns-clause-indexed c n f = well_formed_indexed n f

pub returns-clause-closed : goal.returns-clause-closed
returns-clause-closed c n f = net_closed n f

pub returns-clause-shaped : goal.returns-clause-shaped
returns-clause-shaped c n f = net_shaped n f
