-- A few words, each written.
use Rattle.std.proofs.Common.{◌≡◌, ℤ, List, [], ◌∷◌, length, slice_set, refl, ap, arith}

pub set_one : (xs : List ℤ) (a b : ℤ) → length xs ≡ 1 → a ≡ b → slice_set xs 0 a ≡ b ∷ []
set_one [] a b h e = absurd (omega arith)
set_one (x ∷ []) a b h e = ap (λ (z : ℤ). z ∷ []) e
set_one (x ∷ y ∷ ys) a b h e = absurd (omega arith)

pub set_two : (xs : List ℤ) (a b c d : ℤ) → length xs ≡ 2 → a ≡ c → b ≡ d → slice_set (slice_set xs 0 a) 1 b ≡ c ∷ d ∷ []
set_two [] a b c d h e f = absurd (omega arith)
set_two (x ∷ []) a b c d h e f = absurd (omega arith)
set_two (x ∷ y ∷ []) a b c d h e f = rw (e, f) refl
set_two (x ∷ y ∷ z ∷ zs) a b c d h e f = absurd (omega arith)

pub set_three : (xs : List ℤ) (a b c d e f : ℤ) → length xs ≡ 3 → a ≡ d → b ≡ e → c ≡ f → slice_set (slice_set (slice_set xs 0 a) 1 b) 2 c ≡ d ∷ e ∷ f ∷ []
set_three [] a b c d e f h p q r = absurd (omega arith)
set_three (x ∷ []) a b c d e f h p q r = absurd (omega arith)
set_three (x ∷ y ∷ []) a b c d e f h p q r = absurd (omega arith)
set_three (x ∷ y ∷ z ∷ []) a b c d e f h p q r = rw (p, q, r) refl
set_three (x ∷ y ∷ z ∷ w ∷ ws) a b c d e f h p q r = absurd (omega arith)
