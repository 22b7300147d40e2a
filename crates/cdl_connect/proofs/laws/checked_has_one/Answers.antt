use Rattle.cdl_connect.proofs.Networks.{one_source, one_solution}
use Rattle.cdl_connect.proofs.Windows.{direct_alone}
use Rattle.cdl_connect.proofs.laws.checked_has_one.Goals as goal

pub returns-clause-source : goal.returns-clause-source
returns-clause-source c n x k h w = one_source n x k h w

pub returns-clause-solution : goal.returns-clause-solution
returns-clause-solution c n ts k d o = one_solution n ts k (direct_alone n k.indexed d) o
