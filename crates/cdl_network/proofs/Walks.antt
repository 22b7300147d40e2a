-- Without a loop no walk is longer than there are elements.
use Rattle.std.proofs.Common.{ℕ, zero, suc, ◌+◌, ◌≤◌, ◌≡◌, ◌⊎◌, refl, sym, ap, ◌∙◌, subst, arith, Bool, false, cond, inl, inr, List, [], ◌∷◌, length}
use Rattle.cdl_source.proofs.Cases.{by_bool}
use Rattle.std.proofs.lemmas.Bool.{false≢true}
use Rattle.cdl_network.specs.Closed.{Closed, Shaped}
use Rattle.cdl_network.specs.Dependence.{NoLoop, Walk}
use Rattle.cdl_network.specs.Lists.{Apart, In, Tells}
use Rattle.cdl_network.specs.Network.{Network}
use Rattle.cdl_network.specs.Planned.{Ordered}
use Rattle.cdl_network.proofs.Inside.{origin_inside}

-- the elements at which a walk comes by, its end first, but not its beginning
steps : {I E : Type 0} (n : Network I E) (x y : E) (k : ℕ) → Walk n x y k → List E
steps n x y zero w = []
steps n x y (suc k) w = y ∷ steps n x w.0 k w.1

steps_length : {I E : Type 0} (n : Network I E) (x y : E) (k : ℕ) (w : Walk n x y k) → length (steps n x y k w) ≡ k
unfolding steps
steps_length n x y zero w = refl
steps_length n x y (suc k) w = ap suc (steps_length n x w.0 k w.1)

steps_inside : {I E : Type 0} (n : Network I E) (x y z : E) (k : ℕ) (w : Walk n x y k) → Closed n → In z (steps n x y k w) → In z n.elements
unfolding steps
steps_inside n x y z zero w c i = absurd i
steps_inside n x y z (suc k) w c (inl e) = subst (λ u. In u n.elements) (sym e) (origin_inside n y w.2.0 c w.2.1)
steps_inside n x y z (suc k) w c (inr i) = steps_inside n x w.0 z k w.1 c i

-- what stands on a walk leads to its end
leads : {I E : Type 0} (n : Network I E) (x y z : E) (k : ℕ) (w : Walk n x y k) → In z (steps n x y k w) → (j : ℕ) × Walk n z y j
unfolding steps
leads n x y z zero w i = absurd i
leads n x y z (suc k) w (inl e) = (0, e)
leads n x y z (suc k) w (inr i) = let r = leads n x w.0 z k w.1 i in (suc r.0, (w.0, r.1, w.2))

-- a list whose items are among fewer has one twice
remove : {A : Type 0} (same : A → A → Bool) (x : A) → List A → List A
remove same x [] = []
remove same x (y ∷ ys) = cond (same x y) ys (y ∷ remove same x ys)

remove_at : {A : Type 0} (same : A → A → Bool) (x y : A) (ys zs : List A) → Tells same → same x y ≡ false → (x ≡ y) ⊎ In x ys → (In x ys → suc (length zs) ≡ length ys) → suc (length zs) ≡ length ys
remove_at same x y ys zs t h (inl e) g = absurd (false≢true (sym h ∙ ap (same x) (sym e) ∙ t.self x))
remove_at same x y ys zs t h (inr j) g = g j

remove_length : {A : Type 0} (same : A → A → Bool) (x : A) (ys : List A) → Tells same → In x ys → suc (length (remove same x ys)) ≡ length ys
unfolding remove
remove_length same x [] t i = absurd i
remove_length same x (y ∷ ys) t i = by_bool (same x y)
    (λ h. ap (λ b. suc (length (cond b ys (y ∷ remove same x ys)))) h)
    (λ h. ap (λ b. suc (length (cond b ys (y ∷ remove same x ys)))) h ∙ ap suc (remove_at same x y ys (remove same x ys) t h i (λ j. remove_length same x ys t j)))

removed_in : {A : Type 0} (same : A → A → Bool) (x z : A) (ys : List A) → Tells same → (z ≡ x → ⊥) → In z ys → In z (remove same x ys)
unfolding remove
removed_in same x z [] t d i = i
removed_in same x z (y ∷ ys) t d (inl e) = by_bool (same x y)
    (λ h. absurd (d (e ∙ sym (t.yes x y h))))
    (λ h. subst (λ b. In z (cond b ys (y ∷ remove same x ys))) (sym h) (inl e))
removed_in same x z (y ∷ ys) t d (inr j) =
    let r = removed_in same x z ys t d j in
    by_bool (same x y)
    (λ h. subst (λ b. In z (cond b ys (y ∷ remove same x ys))) (sym h) j)
    (λ h. subst (λ b. In z (cond b ys (y ∷ remove same x ys))) (sym h) (inr r))

fewer : {A : Type 0} (same : A → A → Bool) (xs ys : List A) → Tells same → Apart xs → ((z : A) → In z xs → In z ys) → length xs ≤ length ys
fewer same [] ys t a f = omega arith
fewer same (x ∷ xs) ys t a f =
    let r = remove_length same x ys t (f x (inl refl)) in
    let h = fewer same xs (remove same x ys) t a.1 (λ z i. removed_in same x z ys t (λ e. a.0 (subst (λ u. In u xs) e i)) (f z (inr i))) in
    omega arith

steps_apart : {I E : Type 0} (n : Network I E) (x y : E) (k : ℕ) (w : Walk n x y k) → Closed n → NoLoop n → Apart (steps n x y k w)
unfolding steps
steps_apart n x y zero w c o = tt
steps_apart n x y (suc k) w c o = (
  λ i. let r = leads n x w.0 y k w.1 i in o y (origin_inside n y w.2.0 c w.2.1) (r.0, (w.0, r.1, w.2)),
  steps_apart n x w.0 k w.1 c o,
)

pub short_of : {I E : Type 0} (n : Network I E) → Closed n → Shaped n → NoLoop n → (x y : E) → Walk n x y (suc (length n.elements)) → ⊥
short_of n c z o x y w =
    let k = suc (length n.elements) in
    let e = steps_length n x y k w in
    let h = fewer n.same_element (steps n x y k w) n.elements z.elements (steps_apart n x y k w c o) (λ u i. steps_inside n x y u k w c i) in
    omega (arith, e, h)

-- and none in an order is longer than its top
pub climbs : {I E : Type 0} (n : Network I E) (place : E → ℕ) (top : ℕ) → Ordered n place top → (k : ℕ) (x y : E) → Walk n x y k → place x + k ≤ place y
climbs n place top o zero x y w = let e = ap place w in omega arith
climbs n place top o (suc k) x y w =
    let r = climbs n place top o k x w.0 w.1 in
    let f = o.falls w.0 y w.2 in
    omega arith

pub short_by : {I E : Type 0} (n : Network I E) (place : E → ℕ) (top : ℕ) → Closed n → Ordered n place top → (x y : E) → Walk n x y (suc top) → ⊥
short_by n place top c o x y w =
    let r = climbs n place top o (suc top) x y w in
    let b = o.below y (origin_inside n y w.2.0 c w.2.1) in
    omega arith
