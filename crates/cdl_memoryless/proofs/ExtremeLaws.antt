-- The greatest and the least of many words, found one by one.
use Rattle.std.proofs.Common.{ℕ, suc, ◌+◌, ◌≡◌, ◌<◌, refl, ℤ, List, [], ◌∷◌, length, drop, add-one, arith}
use Rattle.std.proofs.Math.Seq.{drop-cons}
use Rattle.std.specs.Prelude.{pos}
use Rattle.std.proofs.lemmas.Int.{ints}
use Rattle.cdl_decimal.specs.Near.{InRange}
use Rattle.cdl_values.specs.History.{word}
use Rattle.cdl_values.specs.Extremes.{greater_of, lesser_of, greatest, least}
use Rattle.cdl_values.proofs.Extremes.{greatest_next}

lesser_assoc : (a b c : ℤ) → lesser_of a (lesser_of b c) ≡ lesser_of (lesser_of a b) c
lesser_assoc a b c = grind (arith, ints)

pub least_next : (a b : ℤ) (more : List ℤ) → least (a ∷ b ∷ more) ≡ least (lesser_of a b ∷ more)
least_next a b [] = refl
least_next a b (c ∷ more) = lesser_assoc a b (least (c ∷ more))

-- one word more
pub greatest_step : (xs : List ℤ) (i : ℕ) (a r : ℤ) → i < length xs → greatest (a ∷ drop i xs) ≡ greatest xs → r ≡ greater_of a (word xs i) → greatest (r ∷ drop (i + 1) xs) ≡ greatest xs
greatest_step xs i a r l so_far e =
    let d : drop i xs ≡ word xs i ∷ drop (suc i) xs = drop-cons xs i (pos 0) l in
    let n : greatest (a ∷ word xs i ∷ drop (suc i) xs) ≡ greatest (greater_of a (word xs i) ∷ drop (suc i) xs) = greatest_next a (word xs i) (drop (suc i) xs) in
    let s : greatest (a ∷ word xs i ∷ drop (suc i) xs) ≡ greatest xs = rw d at so_far in
    rw (add-one, e, ← n) s

pub least_step : (xs : List ℤ) (i : ℕ) (a r : ℤ) → i < length xs → least (a ∷ drop i xs) ≡ least xs → r ≡ lesser_of a (word xs i) → least (r ∷ drop (i + 1) xs) ≡ least xs
least_step xs i a r l so_far e =
    let d : drop i xs ≡ word xs i ∷ drop (suc i) xs = drop-cons xs i (pos 0) l in
    let n : least (a ∷ word xs i ∷ drop (suc i) xs) ≡ least (lesser_of a (word xs i) ∷ drop (suc i) xs) = least_next a (word xs i) (drop (suc i) xs) in
    let s : least (a ∷ word xs i ∷ drop (suc i) xs) ≡ least xs = rw d at so_far in
    rw (add-one, e, ← n) s

pub greater_in : (a b r : ℤ) → r ≡ greater_of a b → InRange a → InRange b → InRange r
greater_in a b r e p q = grind (arith, ints)

pub lesser_in : (a b r : ℤ) → r ≡ lesser_of a b → InRange a → InRange b → InRange r
lesser_in a b r e p q = grind (arith, ints)
