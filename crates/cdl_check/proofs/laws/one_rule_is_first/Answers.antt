use Rattle.cdl_check.proofs.FirstRule.{not_accepted, one_rule}
use Rattle.cdl_check.proofs.laws.one_rule_is_first.Goals as goal

pub returns-clause-one : goal.returns-clause-one
returns-clause-one g c n ip ep a b s t f h = one_rule n ip ep a b s t f h

pub returns-clause-refused : goal.returns-clause-refused
returns-clause-refused g c n ip ep a s f h = not_accepted n ip ep a s f h
