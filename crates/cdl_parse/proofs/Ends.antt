-- The first identifier behind an `end` that is not that of its class.
use Rattle.std.proofs.Common.{◌≡◌, ℕ, List, [], ◌∷◌, ◌++◌, Option, Some, None, refl, sym, ap, ◌∙◌}
use Rattle.cdl_tree.specs.declared.class.Closing.{Closing}
use Rattle.cdl_parse.specs.Classes.{wrong_end, or_then}

abbrev pub first_wrong : List Closing → Option ℕ
first_wrong [] = None
first_wrong (c ∷ cs) = or_then (wrong_end c.name c.end) (first_wrong cs)

pub or_none : (a : Option ℕ) → or_then a None ≡ a
or_none None = refl
or_none (Some n) = refl

or_assoc : (a b c : Option ℕ) → or_then (or_then a b) c ≡ or_then a (or_then b c)
or_assoc None b c = refl
or_assoc (Some n) b c = refl

pub wrong_in_turn : (xs ys : List Closing) → first_wrong (xs ++ ys) ≡ or_then (first_wrong xs) (first_wrong ys)
wrong_in_turn [] ys = refl
wrong_in_turn (c ∷ cs) ys =
    ap (λ z. or_then (wrong_end c.name c.end) z) (wrong_in_turn cs ys) ∙ sym (or_assoc (wrong_end c.name c.end) (first_wrong cs) (first_wrong ys))
