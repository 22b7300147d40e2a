use Rattle.std.proofs.Common.{◌≡◌, ◌<◌, ◌++◌, ◌∷◌, ◌+◌, [], ◌∙◌, ℕ, List, sym, ap, map, take, get_or, length, arith, append_assoc, length-append}
use Rattle.std.proofs.lemmas.List.{take_more, map-append, length-map, length-take-le}
use Rattle.cdl_tree.specs.declared.name.Ident.{Ident}
use Rattle.cdl_tree.specs.declared.class.Item.{Item}
use Rattle.cdl_scopes.specs.Classes.{text_of}
use Rattle.cdl_scopes.specs.Lookup.{first_named, item_name}
use Rattle.cdl_scopes.proofs.members.members.Goals as goal

one_more : (names : List (List ℕ)) (xs : List Ident) (i : ℕ) (x : Ident) → i < length xs → x ≡ get_or xs i x
    → names ++ map text_of (take (i + 1) xs) ≡ (names ++ map text_of (take i xs)) ++ text_of x ∷ []
one_more names xs i x h e = rw (take_more xs i x h, map-append text_of (take i xs), ← e) (sym (append_assoc names (map text_of (take i xs)) (text_of x ∷ [])))

sizes : (items : List Item) (literals : List Ident) (i : ℕ) → i < length literals → length items + i ≡ length (map item_name items ++ map text_of (take i literals))
sizes items literals i h =
    omega (arith, length-append (map item_name items) (map text_of (take i literals)), length-map items item_name, length-map (take i literals) text_of, length-take-le i literals (omega arith))

pub loop-i-2-preserved : goal.loop-i-2-preserved
loop-i-2-preserved c = λ x.
    let items = c.items-items.result.now in
    let literals = c.literals-literals.result.now in
    let size : length items + c.loop-i-2.i ≡ length (map item_name items ++ map text_of (take c.loop-i-2.i literals)) =
    sizes items literals c.loop-i-2.i (omega arith) in
    c.in_ok-index_name-2.ensures (map item_name items ++ map text_of (take c.loop-i-2.i literals)) size c.loop-i-2.invariant x
    ∙ ap (λ (z : List ℕ). first_named x ((map item_name items ++ map text_of (take c.loop-i-2.i literals)) ++ z ∷ [])) c.bytes-in-loop-i-2.ensures
    ∙ ap (first_named x) (sym (one_more (map item_name items) literals c.loop-i-2.i c.index-literals-i.result (omega arith) c.index-literals-i.is))
