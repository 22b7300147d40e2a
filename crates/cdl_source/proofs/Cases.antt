-- A goal by the two cases of a test or of an order.
use Rattle.std.proofs.Common.{◌≡◌, ◌<◌, ◌≤◌, ℕ, Bool, true, false, inl, inr, refl}
use Rattle.std.proofs.lemmas.Bool.{cases_lt}

pub by_lt : {P : Type 0} (m n : ℕ) → (m < n → P) → (n ≤ m → P) → P
by_lt {P} m n f g = elim (cases_lt m n) as (λ _. P) [ inl h ↦ f h | inr h ↦ g h ]

pub by_bool : {P : Type 0} (b : Bool) → (b ≡ true → P) → (b ≡ false → P) → P
by_bool true f g = f refl
by_bool false f g = g refl
