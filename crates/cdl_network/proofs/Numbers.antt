-- Places in lists.
use Rattle.std.proofs.Common.{ℕ, zero, suc, ◌≡◌, ◌⊎◌, ◌==◌, refl, sym, ap, ◌∙◌, subst, Bool, true, false, cond, inl, inr, List, [], ◌∷◌, ◌++◌, map, length, Some, slice_get}
use Rattle.cdl_source.proofs.Cases.{by_bool}
use Rattle.std.proofs.lemmas.Bool.{false≢true, eqb-true, eq-eqb}
use Rattle.cdl_network.specs.Lists.{Apart, In, Sorted, Tells, number, numbers}
use Rattle.cdl_network.proofs.Inside.{in_slice}

pub slice_number : {A : Type 0} (same : A → A → Bool) (xs : List A) (x : A) → Tells same → In x xs → slice_get xs (number same xs x) ≡ Some x
slice_number same [] x t i = absurd i
slice_number same (y ∷ ys) x t i = by_bool (same x y)
    (λ h. ap (λ b. slice_get (y ∷ ys) (cond b 0 (suc (number same ys x)))) h ∙ ap Some (sym (t.yes x y h)))
    (λ h. ap (λ b. slice_get (y ∷ ys) (cond b 0 (suc (number same ys x)))) h ∙ slice_number same ys x t (rest h i))
  where
    rest : same x y ≡ false → (x ≡ y) ⊎ In x ys → In x ys
    rest h (inl e) = absurd (false≢true (sym h ∙ ap (λ z. same x z) (sym e) ∙ t.self x))
    rest h (inr j) = j

pub number_apart : {A : Type 0} (same : A → A → Bool) (xs : List A) (x y : A) → Tells same → In x xs → In y xs → number same xs x ≡ number same xs y → x ≡ y
number_apart same xs x y t i j e =
    let p : Some x ≡ Some y = sym (slice_number same xs x t i) ∙ ap (slice_get xs) e ∙ slice_number same xs y t j in
    cc

same_bools : (a b : Bool) → (a ≡ true → b ≡ true) → (b ≡ true → a ≡ true) → a ≡ b
same_bools true b f g = sym (f refl)
same_bools false true f g = g refl
same_bools false false f g = refl

pub number_same : {A : Type 0} (same : A → A → Bool) (xs : List A) (x y : A) → Tells same → In x xs → In y xs → (number same xs x == number same xs y) ≡ same x y
number_same same xs x y t i j = same_bools _ _
    (λ h. subst (λ z. same x z ≡ true) (number_apart same xs x y t i j (eqb-true _ _ h)) (t.self x))
    (λ h. eq-eqb _ _ (ap (number same xs) (t.yes x y h)))

map_suc : (a n : ℕ) → map suc (numbers a n) ≡ numbers (suc a) n
map_suc a zero = refl
map_suc a (suc n) = ap (λ l. suc a ∷ l) (map_suc (suc a) n)

map_then : {A B C : Type 0} (f : A → B) (g : B → C) (h : A → C) (xs : List A) → ((x : A) → In x xs → h x ≡ g (f x)) → map h xs ≡ map g (map f xs)
map_then f g h [] e = refl
map_then f g h (x ∷ xs) e =
    let p = e x (inl refl) in
    let q = map_then f g h xs (λ y i. e y (inr i)) in
    rw (p, q) refl

pub map_twice : {A B C : Type 0} (f : A → B) (g : B → C) (h : A → C) (xs : List A) → ((x : A) → In x xs → h x ≡ g (f x)) → map h xs ≡ map g (map f xs)
map_twice f g h xs e = map_then f g h xs e

pub numbers_are : {A : Type 0} (same : A → A → Bool) (Before : A → A → Type 0) (xs : List A) → Tells same → ((x : A) → Before x x → ⊥) → Sorted Before xs → map (number same xs) xs ≡ numbers 0 (length xs)
numbers_are same Before [] t f s = refl
numbers_are same Before (y ∷ ys) t f s =
    let head : number same (y ∷ ys) y ≡ 0 = ap (λ b. cond b 0 (suc (number same ys y))) (t.self y) in
    let tail : map (number same (y ∷ ys)) ys ≡ map suc (map (number same ys) ys) = map_then (number same ys) suc (number same (y ∷ ys)) ys (λ x i.
    ap (λ b. cond b 0 (suc (number same ys x))) (by_bool (same x y) (λ h. absurd (f y (subst (λ z. Before y z) (t.yes x y h) (s.0 x i)))) (λ h. h))) in
    let rest = numbers_are same Before ys t f s.1 in
    ap (λ z. z ∷ map (number same (y ∷ ys)) ys) head ∙ ap (λ l. 0 ∷ l) (tail ∙ ap (map suc) rest ∙ map_suc 0 (length ys))

-- the number of what was pushed stays
pub number_prefix : {A : Type 0} (same : A → A → Bool) (xs ys : List A) (x : A) → Tells same → In x xs → number same (xs ++ ys) x ≡ number same xs x
number_prefix same [] ys x t i = absurd i
number_prefix same (z ∷ zs) ys x t (inl e) =
    let h : same x z ≡ true = ap (same x) (sym e) ∙ t.self x in
    ap (λ b. cond b 0 (suc (number same (zs ++ ys) x))) h ∙ sym (ap (λ b. cond b 0 (suc (number same zs x))) h)
number_prefix same (z ∷ zs) ys x t (inr i) = ap (λ k. cond (same x z) 0 (suc k)) (number_prefix same zs ys x t i)

-- and is its place
pub number_place : {A : Type 0} (same : A → A → Bool) (xs : List A) (k : ℕ) (x : A) → Tells same → Apart xs → slice_get xs k ≡ Some x → number same xs x ≡ k
number_place same [] k x t a e = absurd (cc)
number_place same (z ∷ zs) zero x t a e =
    let q : x ≡ z = cc in
    ap (λ b. cond b 0 (suc (number same zs x))) (ap (same x) (sym q) ∙ t.self x)
number_place same (z ∷ zs) (suc k) x t a e =
    let i = in_slice zs k x e in
    ap (λ b. cond b 0 (suc (number same zs x))) (by_bool (same x z) (λ h. absurd (a.0 (subst (λ u. In u zs) (t.yes x z h) i))) (λ h. h))
    ∙ ap suc (number_place same zs k x t a.1 e)
