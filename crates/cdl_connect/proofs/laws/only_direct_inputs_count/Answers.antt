use Rattle.cdl_connect.proofs.Windows.{direct_alone}
use Rattle.cdl_connect.proofs.laws.only_direct_inputs_count.Goals as goal

pub returns : goal.returns
returns c n f o = direct_alone n f o
