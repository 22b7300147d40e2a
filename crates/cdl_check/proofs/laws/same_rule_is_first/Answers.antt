use Rattle.cdl_check.proofs.FirstRule.{broken_under}
use Rattle.cdl_check.proofs.laws.same_rule_is_first.Goals as goal

pub returns : goal.returns
returns g c a b m n ip ep jp fp rule s k r i x f = broken_under a b m n ip ep jp fp rule s k r i x f
