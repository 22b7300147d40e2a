-- The greatest and the least of numbers.
use Rattle.std.specs.Prelude.{ℤ, pos, cond, List, [], ◌∷◌}
use Rattle.std.specs.Int.RustNames.{int_le}

abbrev pub greater_of : ℤ → ℤ → ℤ
greater_of a b = cond (int_le a b) b a

abbrev pub lesser_of : ℤ → ℤ → ℤ
lesser_of a b = cond (int_le a b) a b

-- the greatest of these, of which there is at least one
abbrev pub greatest : List ℤ → ℤ
greatest [] = pos 0
greatest (a ∷ []) = a
greatest (a ∷ b ∷ more) = greater_of a (greatest (b ∷ more))

-- the least of these
abbrev pub least : List ℤ → ℤ
least [] = pos 0
least (a ∷ []) = a
least (a ∷ b ∷ more) = lesser_of a (least (b ∷ more))
