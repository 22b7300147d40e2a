use Rattle.std.proofs.Common.{◌∙◌, ◌++◌, ◌∷◌, [], List, ap}
use Rattle.cdl_tree.specs.declared.class.FileTree.{FileTree}
use Rattle.cdl_scopes.specs.Classes.{declared}
use Rattle.cdl_scopes.specs.Lookup.{is_needed}
use Rattle.cdl_scopes.specs.Table.{scope_name}
use Rattle.cdl_scopes.proofs.InScope.{number_at, no_number}
use Rattle.cdl_scopes.proofs.table.DeclaredClasses.is_needed.Goals as goal

pub returns-in-Some : goal.returns-in-Some
returns-in-Some c = λ q e.
    let h = c.self.invariant.gathered in
    let at = number_at h.names.paths q c.scope_number.result c.in-Some.number (c.scope_number.ensures c.self.inside.files h q (ap (λ (fs : List FileTree). scope_name (declared fs) c.args.scope) c.self.view_is ∙ e)) c.in-Some.is in
    c.needed_in.ensures c.self.inside.files h q at ∙ ap (λ (fs : List FileTree). is_needed (declared fs) (q ++ c.args.part.now ∷ [])) c.self.view_is

pub returns-in-None : goal.returns-in-None
returns-in-None c = λ q e.
    let h = c.self.invariant.gathered in
    absurd (no_number h.names.paths q c.scope_number.result (c.scope_number.ensures c.self.inside.files h q (ap (λ (fs : List FileTree). scope_name (declared fs) c.args.scope) c.self.view_is ∙ e)) c.in-None.is)
