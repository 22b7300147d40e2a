use Rattle.std.proofs.Common.{◌∙◌, ◌++◌, ◌∷◌, [], sym}
use Rattle.cdl_scopes.proofs.InScope.{first_number, if_some, no_first}
use Rattle.cdl_scopes.proofs.in_scope.first_in.Goals as goal

pub returns-in-Some-clause-within : goal.returns-in-Some-clause-within
returns-in-Some-clause-within c = if_some c.first_at.result _ (λ i e files h. first_number files c.args.all.now h c.in-Some.name i (sym c.first_at.ensures ∙ e))

pub returns-in-Some-clause-found : goal.returns-in-Some-clause-found
returns-in-Some-clause-found c = λ files h q at. c.first_at.ensures ∙ h.first c.in-Some.name (q ++ c.args.part.now ∷ []) (c.in-Some.ensures.some files h q at)

pub returns-in-None-clause-found : goal.returns-in-None-clause-found
returns-in-None-clause-found c = λ files h q at. sym (no_first files c.args.all.now h (q ++ c.args.part.now ∷ []) (c.in-None.ensures.none files h q at))
