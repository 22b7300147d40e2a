use Rattle.cdl_tree.proofs.Meanings.{one_value}
use Rattle.cdl_tree.proofs.law.one_value.Goals as goal

pub returns : goal.returns
returns c = one_value
