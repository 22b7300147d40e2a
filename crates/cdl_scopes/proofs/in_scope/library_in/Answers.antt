use Rattle.std.proofs.Common.{◌∙◌, ◌++◌, ◌∷◌, [], sym}
use Rattle.cdl_scopes.proofs.Needs.{marked, unnumbered_up, child_fresh, past}
use Rattle.cdl_scopes.proofs.in_scope.library_in.Goals as goal

pub returns-in_default : goal.returns-in_default
returns-in_default c = λ files h q library at. absurd (past files c.args.all.now h c.args.scope q at c.in_default.ensures.none)

pub returns-in-Some-child : goal.returns-in-Some-child
returns-in-Some-child c = λ files h q library at.
    let x = c.args.part.now in
    let there = h.names.numbers.found c.args.scope c.in-Some-child.name c.in-Some.node.now q x c.in-Some.ensures.some at (sym c.child.ensures ∙ c.in-Some-child.is) in
    c.is_marked.ensures ∙ marked (library h c.in-Some-child.name (q ++ x ∷ []) there)

pub returns-in-None : goal.returns-in-None
returns-in-None c = λ files h q library at.
    let x = c.args.part.now in
    let fresh = child_fresh files c.args.all.now h c.args.scope c.in-Some.node.now q x c.in-Some.ensures.some at (sym c.child.ensures ∙ c.in-None.is) in
    c.is_marked-in-None.ensures ∙ marked (library h c.args.scope q at) ∙ sym (unnumbered_up files c.args.all.now h q x fresh)
