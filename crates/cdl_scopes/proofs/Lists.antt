-- Lists: what stands at a place, after a push and after a write.
use Rattle.std.proofs.lemmas.Option.{same_Some}
use Rattle.std.proofs.Common.{◌≡◌, ◌≢◌, ◌<◌, ◌≤◌, ◌+◌, ◌∙◌, ◌⊎◌, ℕ, zero, suc, List, [], ◌∷◌, ◌++◌, drop, length, Option, Some, None, refl, sym, ap, inl, inr, arith, subst}
use Rattle.std.specs.List.{slice_get, slice_set, AllZip}

pub get_left : {X : Type 0} (xs ys : List X) (k : ℕ) (x : X) → slice_get xs k ≡ Some x → slice_get (xs ++ ys) k ≡ Some x
get_left [] ys k x h = cc
get_left (z ∷ xs) ys zero x h = h
get_left (z ∷ xs) ys (suc k) x h = get_left xs ys k x h

pub get_last : {X : Type 0} (xs : List X) (x : X) (k : ℕ) → k ≡ length xs → slice_get (xs ++ x ∷ []) k ≡ Some x
get_last [] x zero h = refl
get_last [] x (suc k) h = absurd (omega arith)
get_last (z ∷ xs) x zero h = absurd (omega arith)
get_last (z ∷ xs) x (suc k) h = get_last xs x k (omega arith)

pub get_pushed : {X : Type 0} (xs : List X) (x y : X) (k : ℕ) → slice_get (xs ++ x ∷ []) k ≡ Some y → (slice_get xs k ≡ Some y) ⊎ ((k ≡ length xs) × (y ≡ x))
get_pushed [] x y zero h = inr (refl, sym (same_Some x y h))
get_pushed [] x y (suc k) h = cc
get_pushed (z ∷ xs) x y zero h = inl h
get_pushed (z ∷ xs) x y (suc k) h =
    elim (get_pushed xs x y k h) [
      | inl there ↦ inl there
      | inr last ↦ inr (omega (arith, last.0), last.1)
    ]

pub get_written : {X : Type 0} (xs : List X) (v x y : X) (i k : ℕ) → slice_get xs i ≡ Some x → slice_get (slice_set xs i v) k ≡ Some y → ((k ≡ i) × (y ≡ v)) ⊎ ((k ≢ i) × (slice_get xs k ≡ Some y))
get_written [] v x y i k a h = cc
get_written (z ∷ xs) v x y zero zero a h = inl (refl, sym (same_Some v y h))
get_written (z ∷ xs) v x y zero (suc k) a h = inr (λ e. omega (arith, e), h)
get_written (z ∷ xs) v x y (suc i) zero a h = inr (λ e. omega (arith, e), h)
get_written (z ∷ xs) v x y (suc i) (suc k) a h =
    elim (get_written xs v x y i k a h) [
      | inl at ↦ inl (omega (arith, at.0), at.1)
      | inr other ↦ inr (λ e. other.0 (omega (arith, e)), other.1)
    ]

pub get_at : {X : Type 0} (xs : List X) (k : ℕ) → k < length xs → (x : X) × (slice_get xs k ≡ Some x)
get_at [] k h = absurd (omega arith)
get_at (x ∷ xs) zero h = (x, refl)
get_at (x ∷ xs) (suc k) h = get_at xs k (omega arith)

pub cases_option : {X : Type 0} (o : Option X) → (o ≡ None) ⊎ ((x : X) × (o ≡ Some x))
cases_option None = inl refl
cases_option (Some x) = inr (x, refl)

pub zip_length : {A B : Type 0} (R : A → B → Type 0) (xs : List A) (ys : List B) → AllZip R xs ys → length xs ≡ length ys
zip_length R [] [] h = refl
zip_length R [] (y ∷ ys) h = absurd h
zip_length R (x ∷ xs) [] h = absurd h
zip_length R (x ∷ xs) (y ∷ ys) h = omega (arith, zip_length R xs ys h.1)

pub zip_push : {A B : Type 0} (R : A → B → Type 0) (xs : List A) (ys : List B) (x : A) (y : B) → AllZip R xs ys → R x y → AllZip R (xs ++ x ∷ []) (ys ++ y ∷ [])
zip_push R [] [] x y h r = (r, tt)
zip_push R [] (z ∷ ys) x y h r = absurd h
zip_push R (z ∷ xs) [] x y h r = absurd h
zip_push R (z ∷ xs) (w ∷ ys) x y h r = (h.0, zip_push R xs ys x y h.1 r)

pub zip_at : {A B : Type 0} (R : A → B → Type 0) (xs : List A) (ys : List B) (i : ℕ) (x : A) → AllZip R xs ys → slice_get xs i ≡ Some x → (y : B) × (slice_get ys i ≡ Some y) × R x y
zip_at {A} R [] ys i x h e = cc
zip_at {A} R (z ∷ xs) [] i x h e = absurd h
zip_at {A} R (z ∷ xs) (y ∷ ys) zero x h e = (y, refl, (let P : A → Type 0 = λ a. R a y in subst P (same_Some z x e) h.0))
zip_at {A} R (z ∷ xs) (y ∷ ys) (suc i) x h e = zip_at R xs ys i x h.1 e

pub zip_none : {A B : Type 0} (R : A → B → Type 0) (xs : List A) (ys : List B) (i : ℕ) → AllZip R xs ys → slice_get xs i ≡ None → slice_get ys i ≡ None
zip_none R [] [] i h e = refl
zip_none R [] (y ∷ ys) i h e = absurd h
zip_none R (x ∷ xs) [] i h e = refl
zip_none R (x ∷ xs) (y ∷ ys) zero h e = cc
zip_none R (x ∷ xs) (y ∷ ys) (suc i) h e = zip_none R xs ys i h.1 e

pub drop_at : {X : Type 0} (xs : List X) (i : ℕ) (x : X) → slice_get xs i ≡ Some x → drop i xs ≡ x ∷ drop (i + 1) xs
drop_at [] i x e = cc
drop_at (y ∷ xs) zero x e = ap (λ z. z ∷ xs) (same_Some y x e)
drop_at (y ∷ xs) (suc i) x e =
    let next : suc (i + 1) ≡ suc i + 1 = omega arith in
    drop_at xs i x e ∙ ap (λ j. x ∷ drop j (y ∷ xs)) next

pub none_dropped : {X : Type 0} (xs : List X) (i : ℕ) → length xs ≤ i → drop i xs ≡ []
none_dropped [] zero h = refl
none_dropped [] (suc i) h = refl
none_dropped (x ∷ xs) zero h = absurd (omega arith)
none_dropped (x ∷ xs) (suc i) h = none_dropped xs i (omega arith)
