-- Fronts of full names.
use Rattle.std.proofs.Common.{◌≡◌, ◌⊎◌, ℕ, Bool, true, false, List, [], ◌∷◌, ◌++◌, refl, ◌∙◌, ap, inl, inr}
use Rattle.std.specs.List.{list_any}
use Rattle.std.specs.Str.{bytes_eq}
use Rattle.std.proofs.lemmas.Bool.{false≢true, and_from, and_parts, or_cases, or_left, or_right}
use Rattle.std.proofs.lemmas.Slice.Eq.{bytes_eq-Decides}
use Rattle.cdl_scopes.specs.Classes.{Full, is_front, same_full}

pub same_bytes : (x y : List ℕ) → bytes_eq x y ≡ true → x ≡ y
same_bytes x y h = (bytes_eq-Decides x y).0 h

pub bytes_same : (x y : List ℕ) → x ≡ y → bytes_eq x y ≡ true
bytes_same x y h = (bytes_eq-Decides x y).1 h

pub front_self : (q : Full) → is_front q q ≡ true
front_self [] = refl
front_self (x ∷ q) = and_from _ _ (bytes_same x x refl) (front_self q)

pub front_trans : (p q r : Full) → is_front p q ≡ true → is_front q r ≡ true → is_front p r ≡ true
front_trans [] q r h i = refl
front_trans (x ∷ p) [] r h i = absurd (false≢true h)
front_trans (x ∷ p) (y ∷ q) [] h i = absurd (false≢true i)
front_trans (x ∷ p) (y ∷ q) (z ∷ r) h i =
    let a = and_parts _ _ h in
    let b = and_parts _ _ i in
    and_from _ _ (bytes_same x z (same_bytes x y a.0 ∙ same_bytes y z b.0)) (front_trans p q r a.1 b.1)

pub front_append : (p q : Full) → is_front p (p ++ q) ≡ true
front_append [] q = refl
front_append (x ∷ p) q = and_from _ _ (bytes_same x x refl) (front_append p q)

pub front_push : (p q : Full) (x : List ℕ) → is_front p (q ++ x ∷ []) ≡ true → (is_front p q ≡ true) ⊎ (p ≡ q ++ x ∷ [])
front_push [] q x h = inl refl
front_push (y ∷ []) [] x h = inr (ap (λ z. z ∷ []) (same_bytes y x (and_parts _ _ h).0))
front_push (y ∷ z ∷ p) [] x h = absurd (false≢true (and_parts _ _ h).1)
front_push (y ∷ p) (z ∷ q) x h =
    let a = and_parts _ _ h in
    elim (front_push p q x a.1) [
      | inl f ↦ inl (and_from _ _ a.0 f)
      | inr e ↦ inr (cc (same_bytes y z a.0, e))
    ]

pub same_is : (p q : Full) → same_full p q ≡ true → p ≡ q
same_is [] [] h = refl
same_is [] (y ∷ q) h = absurd (false≢true h)
same_is (x ∷ p) [] h = absurd (false≢true h)
same_is (x ∷ p) (y ∷ q) h =
    let a = and_parts _ _ h in
    cc (same_bytes x y a.0, same_is p q a.1)

pub same_self : (q : Full) → same_full q q ≡ true
same_self [] = refl
same_self (x ∷ q) = and_from _ _ (bytes_same x x refl) (same_self q)

-- what stands at the front of one of these
pub any_trans : (p q : Full) (whole : List Full) → is_front p q ≡ true → list_any (is_front q) whole ≡ true → list_any (is_front p) whole ≡ true
any_trans p q [] h i = i
any_trans p q (w ∷ whole) h i =
    elim (or_cases _ _ i) [
      | inl here ↦ or_left _ _ (front_trans p q w h here)
      | inr later ↦ or_right _ _ (any_trans p q whole h later)
    ]

pub any_left : {X : Type 0} (t : X → Bool) (xs ys : List X) → list_any t xs ≡ true → list_any t (xs ++ ys) ≡ true
any_left t [] ys h = absurd (false≢true h)
any_left t (x ∷ xs) ys h =
    elim (or_cases (t x) (list_any t xs) h) [
      | inl here ↦ or_left (t x) (list_any t (xs ++ ys)) here
      | inr later ↦ or_right (t x) (list_any t (xs ++ ys)) (any_left t xs ys later)
    ]

pub any_right : {X : Type 0} (t : X → Bool) (xs ys : List X) → list_any t ys ≡ true → list_any t (xs ++ ys) ≡ true
any_right t [] ys h = h
any_right t (x ∷ xs) ys h = or_right (t x) (list_any t (xs ++ ys)) (any_right t xs ys h)

pub any_split : {X : Type 0} (t : X → Bool) (xs ys : List X) → list_any t (xs ++ ys) ≡ true → (list_any t xs ≡ true) ⊎ (list_any t ys ≡ true)
any_split t [] ys h = inr h
any_split t (x ∷ xs) ys h =
    elim (or_cases (t x) (list_any t (xs ++ ys)) h) [
      | inl here ↦ inl (or_left (t x) (list_any t xs) here)
      | inr later ↦
          elim (any_split t xs ys later) [
            | inl left ↦ inl (or_right (t x) (list_any t xs) left)
            | inr right ↦ inr right
          ]
    ]

pub any_one : {X : Type 0} (t : X → Bool) (x : X) → list_any t (x ∷ []) ≡ true → t x ≡ true
any_one t x h =
    elim (or_cases (t x) false h) [
      | inl here ↦ here
      | inr none ↦ absurd (false≢true none)
    ]
