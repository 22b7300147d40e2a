use Rattle.std.proofs.Common.{◌∙◌, sym, inl, inr}
use Rattle.std.proofs.lemmas.Bool.{cases_Bool}
use Rattle.cdl_scopes.proofs.Needs.{needed_some, needed_none, past}
use Rattle.cdl_scopes.proofs.in_scope.is_needed.Goals as goal

pub returns-in-Some : goal.returns-in-Some
returns-in-Some c = λ files h q at.
    elim (cases_Bool c.has_names.result) [
      | inl yes_it ↦
          let x = c.has_names.ensures.some yes_it in
          yes_it ∙ sym (needed_some files c.args.all.now h c.args.name c.in-Some.node.now q x.0 x.1 c.in-Some.ensures.some at x.2)
      | inr no_it ↦ no_it ∙ sym (needed_none files c.args.all.now h c.args.name c.in-Some.node.now q c.in-Some.ensures.some at (c.has_names.ensures.none no_it))
    ]

pub returns-in-None : goal.returns-in-None
returns-in-None c = λ files h q at. absurd (past files c.args.all.now h c.args.name q at c.in-None.ensures.none)
