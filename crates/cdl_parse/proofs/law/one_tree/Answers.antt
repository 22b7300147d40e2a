use Rattle.cdl_parse.proofs.Top.{one_tree as law}
use Rattle.cdl_parse.proofs.law.one_tree.Goals as goal

pub returns : goal.returns
returns c = law
