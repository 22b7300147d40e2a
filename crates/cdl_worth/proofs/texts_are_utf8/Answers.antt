use Rattle.cdl_worth.proofs.TextWorths.{value_gives, evaluate_gives, unit_gives}
use Rattle.cdl_worth.proofs.texts_are_utf8.Goals as goal

pub returns-clause-value : goal.returns-clause-value
returns-clause-value c ds d r p n h = (value_gives ds h d r p n).held

pub returns-clause-expression : goal.returns-clause-expression
returns-clause-expression c ds d r p locals e h w = (evaluate_gives ds h d r p locals e w).held

pub returns-clause-unit : goal.returns-clause-unit
returns-clause-unit c ds d r p n h = (unit_gives ds h d r p n).held
