use Rattle.cdl_worth.proofs.Laws.{value_lasts, evaluate_lasts, dims_last, present_lasts}
use Rattle.cdl_worth.proofs.more_links_change_nothing.Goals as goal

pub returns-clause-value : goal.returns-clause-value
returns-clause-value c ds r p n = value_lasts ds r p n

pub returns-clause-expression : goal.returns-clause-expression
returns-clause-expression c ds r p locals e = evaluate_lasts ds r p locals e

pub returns-clause-sizes : goal.returns-clause-sizes
returns-clause-sizes c ds r p x = dims_last ds r p x

pub returns-clause-presence : goal.returns-clause-presence
returns-clause-presence c ds r p x = present_lasts ds r p x
