use Rattle.cdl_expand.proofs.Refused.{expansion_once}
use Rattle.cdl_expand.proofs.laws.one_expansion.Goals as goal

pub returns : goal.returns
returns c = record { one = λ w u v a b. expansion_once w u v (c.parts_are_one.ensures.instances w u v a.parts b.parts) (c.parts_are_one.ensures.elements w u v a.parts b.parts) a b }
