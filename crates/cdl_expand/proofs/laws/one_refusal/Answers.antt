use Rattle.cdl_expand.proofs.Refused.{instance_once, instance_none, statement_once, statement_none}
use Rattle.cdl_expand.proofs.laws.one_refusal.Goals as goal

pub returns-clause-instance : goal.returns-clause-instance
returns-clause-instance c w r s p q a b = instance_once w r s p q a b

pub returns-clause-statement : goal.returns-clause-statement
returns-clause-statement c w r s p q a b x y = statement_once w r s p q a b x y

pub returns-clause-has_instances : goal.returns-clause-has_instances
returns-clause-has_instances c w r p n a = instance_none w r p n a

pub returns-clause-is_expanded : goal.returns-clause-is_expanded
returns-clause-is_expanded c w u r p a x y = statement_none w u r p a x y
