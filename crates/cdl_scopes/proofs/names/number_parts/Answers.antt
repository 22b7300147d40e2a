use Rattle.std.proofs.Common.{◌≡◌, ◌∙◌, ◌++◌, ◌∷◌, ◌<◌, ◌+◌, [], ℕ, List, map, take, get_or, length, arith, sym, ap, subst}
use Rattle.std.proofs.lemmas.List.{take_more, map-append}
use Rattle.cdl_tree.specs.declared.name.Ident.{Ident}
use Rattle.cdl_scopes.specs.Classes.{Full, text_of}
use Rattle.cdl_scopes.specs.inner.Numbered.{WithinAdded}
use Rattle.cdl_scopes.proofs.Walk.{take_whole}
use Rattle.cdl_scopes.proofs.Within.{within_none, within_more}
use Rattle.cdl_scopes.proofs.names.number_parts.Goals as goal

pub loop-part-init : goal.loop-part-init
loop-part-init c = λ whole h. within_none c.args.nodes.now.items whole h

parts_more : (ps : List Ident) (i : ℕ) (p : Ident) (x : List ℕ) → i < length ps → p ≡ get_or ps i p → x ≡ p.text → map text_of (take i ps) ++ x ∷ [] ≡ map text_of (take (i + 1) ps)
parts_more ps i p x h e t =
    ap (λ (z : List ℕ). map text_of (take i ps) ++ z ∷ []) t
    ∙ sym (ap (map text_of) (take_more ps i p h ∙ ap (λ (z : Ident). take i ps ++ z ∷ []) (sym e)) ∙ map-append text_of (take i ps) (p ∷ []))

pub loop-part-preserved : goal.loop-part-preserved
loop-part-preserved c = λ whole h.
    let a = c.loop-part.invariant whole h in
    let g = c.in_ok-scope.ensures (whole ++ a.more) _ a.grown a.at in
    let e : map text_of (take c.loop-part.part-index c.args.parts.now) ++ c.bytes.result.now ∷ [] ≡ map text_of (take (c.loop-part.part-index + 1) c.args.parts.now) =
    parts_more c.args.parts.now c.loop-part.part-index c.part-item.result c.bytes.result.now (omega arith) c.part-item.is c.bytes.ensures in
    subst (λ (q : Full). WithinAdded h.paths c.number_name.new.nodes.items whole c.in_ok-scope.scope q) e
    (within_more h.paths c.loop-part.nodes.items c.number_name.new.nodes.items whole c.loop-part.scope c.in_ok-scope.scope _ c.bytes.result.now a g)

pub returns : goal.returns
returns c = λ whole h.
    subst (λ (ps : List Ident). WithinAdded h.paths c.loop-part.nodes.items whole c.loop-part.scope (map text_of ps))
    (take_whole c.loop-part.part-index c.args.parts.now (omega arith)) (c.loop-part.invariant whole h)
