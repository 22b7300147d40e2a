use Rattle.std.proofs.Common.{refl, Err}
use Rattle.cdl_source.specs.declared.rules.TheConstants.{PARAMETERS_TOO_DEEP}
use Rattle.cdl_worth.specs.Expressions.{eval}
use Rattle.cdl_worth.specs.Links.{too_deep}
use Rattle.cdl_worth.proofs.Evals.{eval_within}
use Rattle.cdl_worth.proofs.Links.{value_lasts}
use Rattle.cdl_worth.proofs.expressions_follow_their_names.Goals as goal

pub returns-clause-names : goal.returns-clause-names
returns-clause-names c f g e h = eval_within f g h e

pub returns-clause-no_names : goal.returns-clause-no_names
returns-clause-no_names c f e a h = value_lasts (eval (λ n. Err PARAMETERS_TOO_DEEP) e) (eval f e) a (eval_within (λ n. Err PARAMETERS_TOO_DEEP) f (λ n. too_deep refl) e) h
