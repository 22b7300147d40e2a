-- The greatest of many numbers, found one by one.
use Rattle.std.proofs.Common.{◌≡◌, refl, ℤ, List, [], ◌∷◌, arith}
use Rattle.std.proofs.lemmas.Int.{ints}
use Rattle.cdl_values.specs.Extremes.{greater_of, greatest}

greater_assoc : (a b c : ℤ) → greater_of a (greater_of b c) ≡ greater_of (greater_of a b) c
greater_assoc a b c = grind (arith, ints)

-- the greater of the first two stands for both
pub greatest_next : (a b : ℤ) (more : List ℤ) → greatest (a ∷ b ∷ more) ≡ greatest (greater_of a b ∷ more)
greatest_next a b [] = refl
greatest_next a b (c ∷ more) = greater_assoc a b (greatest (c ∷ more))
