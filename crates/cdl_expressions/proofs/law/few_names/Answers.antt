use Rattle.cdl_expressions.proofs.Counted.{expr_counted, args_counted}
use Rattle.cdl_expressions.proofs.law.few_names.Goals as goal

pub returns-clause-expressions : goal.returns-clause-expressions
returns-clause-expressions c w e x = expr_counted x

pub returns-clause-arguments : goal.returns-clause-arguments
returns-clause-arguments c w ms x = args_counted x
