-- What holds of each number below a bound, and of each item of a list: from tests that compute, or from a proof for each.
use Rattle.std.proofs.Common.{ℕ, zero, suc, ◌<◌, ◌≡◌, ◌&&◌, sym, subst, inl, inr, Bool, true, List, [], ◌∷◌, Some, slice_get, arith}
use Rattle.std.proofs.lemmas.Bool.{and_parts}
use Rattle.cdl_network.specs.Lists.{In}

-- numbers below a bound
abbrev pub all_below : ℕ → (ℕ → Bool) → Bool
all_below zero p = true
all_below (suc n) p = p zero && all_below n (λ x. p (suc x))

pub below : (n : ℕ) (p : ℕ → Bool) → all_below n p ≡ true → (x : ℕ) → x < n → p x ≡ true
below zero p h x l = absurd (omega (arith, l))
below (suc n) p h zero l = (and_parts (p zero) (all_below n (λ x. p (suc x))) h).0
below (suc n) p h (suc x) l = below n (λ y. p (suc y)) (and_parts (p zero) (all_below n (λ y. p (suc y))) h).1 x (omega (arith, l))

abbrev pub EachBelow : ℕ → (ℕ → Type 0) → Type 0
EachBelow zero P = Unit {0}
EachBelow (suc n) P = P zero × EachBelow n (λ x. P (suc x))

pub each_below : (n : ℕ) (P : ℕ → Type 0) → EachBelow n P → (x : ℕ) → x < n → P x
each_below zero P h x l = absurd (omega (arith, l))
each_below (suc n) P h zero l = h.0
each_below (suc n) P h (suc x) l = each_below n (λ y. P (suc y)) h.1 x (omega (arith, l))

-- items with their places
abbrev pub all_at : {A : Type 0} → (ℕ → A → Bool) → List A → Bool
all_at p [] = true
all_at p (x ∷ xs) = p 0 x && all_at (λ k. p (suc k)) xs

same_item : {A : Type 0} (x y : A) → Some x ≡ Some y → x ≡ y
same_item x y e = cc

pub at_place : {A : Type 0} (p : ℕ → A → Bool) (xs : List A) → all_at p xs ≡ true → (k : ℕ) (x : A) → slice_get xs k ≡ Some x → p k x ≡ true
at_place p [] h k x e = absurd (cc)
at_place p (y ∷ xs) h zero x e = subst (λ z. p 0 z ≡ true) (same_item y x e) (and_parts (p 0 y) (all_at (λ j. p (suc j)) xs) h).0
at_place p (y ∷ xs) h (suc k) x e = at_place (λ j. p (suc j)) xs (and_parts (p 0 y) (all_at (λ j. p (suc j)) xs) h).1 k x e

abbrev pub EachAt : {A : Type 0} → (ℕ → A → Type 0) → List A → Type 0
EachAt P [] = Unit {0}
EachAt P (x ∷ xs) = P 0 x × EachAt (λ k. P (suc k)) xs

pub each_at : {A : Type 0} (P : ℕ → A → Type 0) (xs : List A) → EachAt P xs → (k : ℕ) (x : A) → slice_get xs k ≡ Some x → P k x
each_at P [] h k x e = absurd (cc)
each_at P (y ∷ xs) h zero x e = subst (P 0) (same_item y x e) h.0
each_at P (y ∷ xs) h (suc k) x e = each_at (λ j. P (suc j)) xs h.1 k x e

-- members
abbrev pub EachIn : {A : Type 0} → (A → Type 0) → List A → Type 0
EachIn P [] = Unit {0}
EachIn P (x ∷ xs) = P x × EachIn P xs

pub each_in : {A : Type 0} (P : A → Type 0) (xs : List A) → EachIn P xs → (x : A) → In x xs → P x
each_in P [] h x i = absurd i
each_in P (y ∷ xs) h x (inl e) = subst P (sym e) h.0
each_in P (y ∷ xs) h x (inr i) = each_in P xs h.1 x i
