use Rattle.std.proofs.Common.{◌∙◌, ◌++◌, ◌∷◌, [], List, ap, sym, arith}
use Rattle.cdl_tree.specs.declared.class.FileTree.{FileTree}
use Rattle.cdl_scopes.specs.Classes.{declared}
use Rattle.cdl_scopes.specs.Lookup.{first_of}
use Rattle.cdl_scopes.specs.Table.{scope_name}
use Rattle.cdl_scopes.proofs.InScope.{number_at, no_number}
use Rattle.cdl_scopes.proofs.Meanings.{counted}
use Rattle.cdl_scopes.proofs.table.DeclaredClasses.first_within.Goals as goal

pub returns-in_default : goal.returns-in_default
returns-in_default c = λ q e.
    let h = c.self.invariant.gathered in
    absurd (no_number h.names.paths q c.scope_number.result (c.scope_number.ensures c.self.inside.files h q (ap (λ (fs : List FileTree). scope_name (declared fs) c.args.scope) c.self.view_is ∙ e)) c.in_default.is)

pub overflow_cast-result : goal.overflow_cast-result
overflow_cast-result c =
    omega (arith, c.in-Some-first_in.ensures.within c.self.inside.files c.self.invariant.gathered, counted (declared c.self.inside.files), c.self.invariant.few)

pub returns-in-Some-first_in : goal.returns-in-Some-first_in
returns-in-Some-first_in c = λ q e.
    let h = c.self.invariant.gathered in
    let at = number_at h.names.paths q c.scope_number.result c.in-Some.number (c.scope_number.ensures c.self.inside.files h q (ap (λ (fs : List FileTree). scope_name (declared fs) c.args.scope) c.self.view_is ∙ e)) c.in-Some.is in
    sym c.in-Some-first_in.is ∙ c.first_in.ensures.found c.self.inside.files h q at ∙ ap (λ (fs : List FileTree). first_of (q ++ c.args.part.now ∷ []) (declared fs)) c.self.view_is

pub returns-in-None : goal.returns-in-None
returns-in-None c = λ q e.
    let h = c.self.invariant.gathered in
    let at = number_at h.names.paths q c.scope_number.result c.in-Some.number (c.scope_number.ensures c.self.inside.files h q (ap (λ (fs : List FileTree). scope_name (declared fs) c.args.scope) c.self.view_is ∙ e)) c.in-Some.is in
    sym c.in-None.is ∙ c.first_in.ensures.found c.self.inside.files h q at ∙ ap (λ (fs : List FileTree). first_of (q ++ c.args.part.now ∷ []) (declared fs)) c.self.view_is
