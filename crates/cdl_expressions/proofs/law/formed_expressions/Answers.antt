use Rattle.cdl_expressions.proofs.Formed.{expr_formed, args_formed}
use Rattle.cdl_expressions.proofs.law.formed_expressions.Goals as goal

pub returns-clause-expressions : goal.returns-clause-expressions
returns-clause-expressions c w e x s = expr_formed x s

pub returns-clause-arguments : goal.returns-clause-arguments
returns-clause-arguments c w ms x s = args_formed x s
