-- There is one list of all that have a property, in order.
use Rattle.std.proofs.Common.{◌≡◌, sym, ap, ◌∙◌, subst, refl, inl, inr, List, [], ◌∷◌}
use Rattle.cdl_network.specs.Lists.{In, Lists, Sorted}

heads : {A : Type 0} (Before : A → A → Type 0) (x y : A) (xs ys : List A) → ((a b : A) → Before a b → Before b a → ⊥) → Sorted Before (x ∷ xs) → Sorted Before (y ∷ ys) → In x (y ∷ ys) → In y (x ∷ xs) → x ≡ y
heads Before x y xs ys g s t (inl e) b = e
heads Before x y xs ys g s t (inr m) (inl e) = sym e
heads Before x y xs ys g s t (inr m) (inr k) = absurd (g x y (s.0 y k) (t.0 x m))

tails : {A : Type 0} (Before : A → A → Type 0) (x y z : A) (xs ys : List A) → ((a b : A) → Before a b → Before b a → ⊥) → Sorted Before (x ∷ xs) → x ≡ y → In z xs → In z (y ∷ ys) → In z ys
tails Before x y z xs ys g s e h (inl f) =
    let same : z ≡ x = f ∙ sym e in
    let b : Before x x = subst (λ u. Before x u) same (s.0 z h) in
    absurd (g x x b b)
tails Before x y z xs ys g s e h (inr m) = m

same_lists : {A : Type 0} (Before : A → A → Type 0) (xs ys : List A) → ((a b : A) → Before a b → Before b a → ⊥) → Sorted Before xs → Sorted Before ys → ((z : A) → In z xs → In z ys) → ((z : A) → In z ys → In z xs) → xs ≡ ys
same_lists Before [] [] g s t f h = refl
same_lists Before [] (y ∷ ys) g s t f h = absurd (h y (inl refl))
same_lists Before (x ∷ xs) [] g s t f h = absurd (f x (inl refl))
same_lists Before (x ∷ xs) (y ∷ ys) g s t f h =
    let e : x ≡ y = heads Before x y xs ys g s t (f x (inl refl)) (h y (inl refl)) in
    let rest : xs ≡ ys = same_lists Before xs ys g s.1 t.1 (λ z i. tails Before x y z xs ys g s e i (f z (inr i))) (λ z i. tails Before y x z ys xs g t (sym e) i (h z (inr i))) in
    ap (λ z. z ∷ xs) e ∙ ap (λ zs. y ∷ zs) rest

pub lists_same : {A : Type 0} (Before : A → A → Type 0) (P : A → Type 0) (xs ys : List A) → ((a b : A) → Before a b → Before b a → ⊥) → Lists Before P xs → Lists Before P ys → xs ≡ ys
lists_same Before P xs ys g a b = same_lists Before xs ys g a.sorted b.sorted (λ z i. b.each z (a.only z i)) (λ z i. a.each z (b.only z i))
