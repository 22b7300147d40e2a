use Rattle.std.proofs.Common.{◌≡◌, ◌∙◌, List, Some, ap, sym, arith}
use Rattle.cdl_tree.specs.declared.class.FileTree.{FileTree}
use Rattle.cdl_scopes.specs.Classes.{cut, declared}
use Rattle.cdl_scopes.specs.Lookup.{first_of}
use Rattle.cdl_scopes.proofs.InScope.{no_first}
use Rattle.cdl_scopes.proofs.Meanings.{counted, first_within}
use Rattle.cdl_scopes.proofs.table.DeclaredClasses.first.Goals as goal

pub returns-in_default : goal.returns-in_default
returns-in_default c =
    let h = c.self.invariant.gathered in
    let name : cut c.args.name.now ≡ cut c.as_bytes.result.now = ap cut (sym c.as_bytes.ensures.value) in
    sym (no_first c.self.inside.files c.self.inside.classes h (cut c.args.name.now) (λ m at. c.in_default.ensures.none c.self.inside.files h m (at ∙ ap (λ q. Some q) name)))
    ∙ ap (λ (fs : List FileTree). first_of (cut c.args.name.now) (declared fs)) c.self.view_is

pub overflow_cast-result : goal.overflow_cast-result
overflow_cast-result c =
    let h = c.self.invariant.gathered in
    let at = c.in-Some.ensures.some c.self.inside.files h in
    let found = sym (h.first c.in-Some.full (cut c.as_bytes.result.now) at) ∙ sym c.first_at.ensures ∙ c.in-Some-first_at.is in
    omega (arith, first_within c.in-Some-first_at.number (cut c.as_bytes.result.now) (declared c.self.inside.files) found, counted (declared c.self.inside.files), c.self.invariant.few)

pub returns-in-Some-first_at : goal.returns-in-Some-first_at
returns-in-Some-first_at c =
    let h = c.self.invariant.gathered in
    let name : cut c.as_bytes.result.now ≡ cut c.args.name.now = ap cut c.as_bytes.ensures.value in
    let at = c.in-Some.ensures.some c.self.inside.files h ∙ ap (λ q. Some q) name in
    sym c.in-Some-first_at.is ∙ c.first_at.ensures ∙ h.first c.in-Some.full (cut c.args.name.now) at ∙ ap (λ (fs : List FileTree). first_of (cut c.args.name.now) (declared fs)) c.self.view_is

pub returns-in-None : goal.returns-in-None
returns-in-None c =
    let h = c.self.invariant.gathered in
    let name : cut c.as_bytes.result.now ≡ cut c.args.name.now = ap cut c.as_bytes.ensures.value in
    let at = c.in-Some.ensures.some c.self.inside.files h ∙ ap (λ q. Some q) name in
    sym c.in-None.is ∙ c.first_at.ensures ∙ h.first c.in-Some.full (cut c.args.name.now) at ∙ ap (λ (fs : List FileTree). first_of (cut c.args.name.now) (declared fs)) c.self.view_is
