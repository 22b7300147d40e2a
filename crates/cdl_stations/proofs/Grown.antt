-- Lists of what stands at keys grow by one number at a time.
use Rattle.std.proofs.Common.{◌≡◌, ℕ, ◌+◌, List, [], ◌∷◌, ◌++◌, refl, sym, ap, subst, arith, inl, inr, ◌⊎◌}
use Rattle.std.proofs.lemmas.Bool.{cases_lt}
use Rattle.cdl_stations.specs.Keys.{Key, Before, In, Sorted, Lists, Below, under, upto, to}

module _ {X : Type 0} where
  pub in_left : (y : X) (xs ys : List X) → In y xs → In y (xs ++ ys)
  in_left y [] ys h = absurd h
  in_left y (x ∷ xs) ys (inl e) = inl e
  in_left y (x ∷ xs) ys (inr h) = inr (in_left y xs ys h)

  pub in_right : (y : X) (xs ys : List X) → In y ys → In y (xs ++ ys)
  in_right y [] ys h = h
  in_right y (x ∷ xs) ys h = inr (in_right y xs ys h)

  pub in_either : (y : X) (xs ys : List X) → In y (xs ++ ys) → In y xs ⊎ In y ys
  in_either y [] ys h = inr h
  in_either y (x ∷ xs) ys (inl e) = inl (inl e)
  in_either y (x ∷ xs) ys (inr h) = elim (in_either y xs ys h) as (λ _. In y (x ∷ xs) ⊎ In y ys) [ inl a ↦ inl (inr a) | inr b ↦ inr b ]

abbrev pub with_head : {E : Type 0} → ℕ → List (Key × E) → List (Key × E)
with_head i [] = []
with_head i (z ∷ zs) = (i ∷ z.0, z.1) ∷ with_head i zs

pub before_head : (i : ℕ) (x l : Key) → Below i x → Before x (i ∷ l)
before_head i [] l h = tt
before_head i (j ∷ k) l h = inl h

pub more_below : (i : ℕ) (k : Key) → Below i k → Below (i + 1) k
more_below i [] h = tt
more_below i (j ∷ k) h = omega (arith, h)

module _ {E : Type 0} where
  pub in_head : (k : Key) (e : E) (i : ℕ) (zs : List (Key × E)) → In (k, e) zs → In (i ∷ k, e) (with_head i zs)
  in_head k e i [] h = absurd h
  in_head k e i (z ∷ zs) (inl p) = inl (ap (λ (x : Key × E). (i ∷ x.0, x.1)) p)
  in_head k e i (z ∷ zs) (inr h) = inr (in_head k e i zs h)

  pub of_head : (k : Key) (e : E) (i : ℕ) (zs : List (Key × E)) → In (k, e) (with_head i zs) → (l : Key) × (k ≡ i ∷ l) × In (l, e) zs
  of_head k e i [] h = absurd h
  of_head k e i (z ∷ zs) (inl p) = (z.0, ap (λ (x : Key × E). x.0) p, inl (ap (λ (d : E). (z.0, d)) (ap (λ (x : Key × E). x.1) p)))
  of_head k e i (z ∷ zs) (inr h) = let p = of_head k e i zs h in (p.0, p.1, inr p.2)

  pub sorted_head : (i : ℕ) (zs : List (Key × E)) → Sorted zs → Sorted (with_head i zs)
  sorted_head i [] s = tt
  sorted_head i (z ∷ zs) s = (λ k e h. let p = of_head k e i zs h in subst (λ (x : Key). Before (i ∷ z.0) x) (sym p.1) (inr (refl, s.0 p.0 e p.2)), sorted_head i zs s.1)

  pub sorted_both : (xs ys : List (Key × E)) → Sorted xs → Sorted ys → ((x y : Key) (d e : E) → In (x, d) xs → In (y, e) ys → Before x y) → Sorted (xs ++ ys)
  sorted_both [] ys s t h = t
  sorted_both (x ∷ xs) ys s t h = (
    λ k e m. elim (in_either (k, e) xs ys m) as (λ _. Before x.0 k) [ inl a ↦ s.0 k e a | inr b ↦ h x.0 k x.1 e (inl refl) b ],
    sorted_both xs ys s.1 t (λ a b d e p q. h a b d e (inr p) q),
  )

  -- up to a family T inside the one below i: all of it, or its front
  joined_each : (S T : Key → E → Type 0) (i : ℕ) (ys zs : List (Key × E)) → Lists (upto S i) ys → Lists T zs
      → (k : Key) (e : E) → (upto S i k e ⊎ ((l : Key) × (k ≡ i ∷ l) × T l e)) → In (k, e) (ys ++ with_head i zs)
  joined_each S T i ys zs a b k e (inl h) = in_left (k, e) ys (with_head i zs) (a.each k e h)
  joined_each S T i ys zs a b k e (inr h) = subst (λ (x : Key). In (x, e) (ys ++ with_head i zs)) (sym h.1) (in_right (i ∷ h.0, e) ys (with_head i zs) (in_head h.0 e i zs (b.each h.0 e h.2)))

  joined_only : (S T : Key → E → Type 0) (i : ℕ) (ys zs : List (Key × E)) → Lists (upto S i) ys → Lists T zs
      → (k : Key) (e : E) → In (k, e) (ys ++ with_head i zs) → upto S i k e ⊎ ((l : Key) × (k ≡ i ∷ l) × T l e)
  joined_only S T i ys zs a b k e h = elim (in_either (k, e) ys (with_head i zs) h) as (λ _. upto S i k e ⊎ ((l : Key) × (k ≡ i ∷ l) × T l e)) [
    | inl m ↦ inl (a.only k e m)
    | inr m ↦ (let p = of_head k e i zs m in inr (p.0, p.1, b.only p.0 e p.2))
  ]

  -- the lists of both, put together, are the list of any family U that says the same
  pub joined : (S T U : Key → E → Type 0) (i : ℕ) (ys zs : List (Key × E))
      → ((k : Key) (e : E) → U k e → upto S i k e ⊎ ((l : Key) × (k ≡ i ∷ l) × T l e))
      → ((k : Key) (e : E) → upto S i k e ⊎ ((l : Key) × (k ≡ i ∷ l) × T l e) → U k e)
      → Lists (upto S i) ys → Lists T zs → Lists U (ys ++ with_head i zs)
  joined S T U i ys zs f g a b = record {
    each = λ k e u. joined_each S T i ys zs a b k e (f k e u);
    only = λ k e h. g k e (joined_only S T i ys zs a b k e h);
    sorted = sorted_both ys (with_head i zs) a.sorted (sorted_head i zs b.sorted)
        (λ x y d e p q. let m = of_head y e i zs q in subst (λ (z : Key). Before x z) (sym m.1) (before_head i x m.0 (a.only x d p).0));
  }

  upto_next : (S : Key → E → Type 0) (i : ℕ) (k : Key) (e : E) → upto S (i + 1) k e → upto S i k e ⊎ ((l : Key) × (k ≡ i ∷ l) × under S i l e)
  upto_next S i [] e h = inl (tt, h.1)
  upto_next S i (j ∷ k) e h = elim (cases_lt j i) as (λ _. upto S i (j ∷ k) e ⊎ ((l : Key) × (j ∷ k ≡ i ∷ l) × under S i l e)) [
    | inl lt ↦ inl (lt, h.1)
    | inr le ↦ (let same : j ≡ i = omega (arith, h.0, le) in inr (k, ap (λ (n : ℕ). n ∷ k) same, subst (λ (n : ℕ). S (n ∷ k) e) same h.1))
  ]

  next_upto : (S : Key → E → Type 0) (i : ℕ) (k : Key) (e : E) → upto S i k e ⊎ ((l : Key) × (k ≡ i ∷ l) × under S i l e) → upto S (i + 1) k e
  next_upto S i k e (inl h) = (more_below i k h.0, h.1)
  next_upto S i k e (inr h) = subst (λ (x : Key). upto S (i + 1) x e) (sym h.1) (omega arith, h.2)

  pub lists_step : (S : Key → E → Type 0) (i : ℕ) (ys zs : List (Key × E)) → Lists (upto S i) ys → Lists (under S i) zs → Lists (upto S (i + 1)) (ys ++ with_head i zs)
  lists_step S i ys zs a b = joined S (under S i) (upto S (i + 1)) i ys zs (upto_next S i) (next_upto S i) a b

  to_under : (S : Key → E → Type 0) (i : ℕ) (at k : Key) (e : E) → to S (i ∷ at) k e → upto S i k e ⊎ ((l : Key) × (k ≡ i ∷ l) × to (under S i) at l e)
  to_under S i at [] e h = inl (tt, h.1)
  to_under S i at (j ∷ k) e h = elim h.0 as (λ _. upto S i (j ∷ k) e ⊎ ((l : Key) × (j ∷ k ≡ i ∷ l) × to (under S i) at l e)) [
    | inl b ↦ elim b as (λ _. upto S i (j ∷ k) e ⊎ ((l : Key) × (j ∷ k ≡ i ∷ l) × to (under S i) at l e)) [
      | inl lt ↦ inl (lt, h.1)
      | inr p ↦ inr (k, ap (λ (n : ℕ). n ∷ k) p.0, (inl p.1, subst (λ (n : ℕ). S (n ∷ k) e) p.0 h.1))
    ]
    | inr q ↦ inr (at, q, (inr refl, subst (λ (x : Key). S x e) q h.1))
  ]

  under_to : (S : Key → E → Type 0) (i : ℕ) (at k : Key) (e : E) → upto S i k e ⊎ ((l : Key) × (k ≡ i ∷ l) × to (under S i) at l e) → to S (i ∷ at) k e
  under_to S i at k e (inl h) = (inl (before_head i k at h.0), h.1)
  under_to S i at k e (inr h) = subst (λ (x : Key). to S (i ∷ at) x e) (sym h.1) (elim h.2.0 as (λ _. to S (i ∷ at) (i ∷ h.0) e) [
    | inl b ↦ (inl (inr (refl, b)), h.2.1)
    | inr q ↦ (inr (ap (λ (x : Key). i ∷ x) q), h.2.1)
  ])

  pub lists_to : (S : Key → E → Type 0) (i : ℕ) (at : Key) (ys zs : List (Key × E)) → Lists (upto S i) ys → Lists (to (under S i) at) zs → Lists (to S (i ∷ at)) (ys ++ with_head i zs)
  lists_to S i at ys zs a b = joined S (to (under S i) at) (to S (i ∷ at)) i ys zs (to_under S i at) (under_to S i at) a b

  pub head_both : (i : ℕ) (xs ys : List (Key × E)) → with_head i (xs ++ ys) ≡ with_head i xs ++ with_head i ys
  head_both i [] ys = refl
  head_both i (x ∷ xs) ys = ap (λ (zs : List (Key × E)). (i ∷ x.0, x.1) ∷ zs) (head_both i xs ys)

  nothing_yet : (S : Key → E → Type 0) → ((e : E) → S [] e → ⊥) → (k : Key) (e : E) → upto S 0 k e → In {X = Key × E} (k, e) []
  nothing_yet S n [] e h = absurd (n e h.1)
  nothing_yet S n (j ∷ k) e h = absurd (omega (arith, h.0))

  pub lists_nothing : (S : Key → E → Type 0) → ((e : E) → S [] e → ⊥) → Lists (upto S 0) []
  lists_nothing S n = record { each = nothing_yet S n; only = λ k e m. absurd m; sorted = tt }

  one_yet : (S : Key → E → Type 0) (d : E) → ((e : E) → S [] e → e ≡ d) → (k : Key) (e : E) → upto S 0 k e → In {X = Key × E} (k, e) (([], d) ∷ [])
  one_yet S d a [] e h = inl (ap (λ (x : E). ([], x)) (a e h.1))
  one_yet S d a (j ∷ k) e h = absurd (omega (arith, h.0))

  pub the_one : (U : Key → E → Type 0) (d : E) → U [] d → (k : Key) (e : E) → In {X = Key × E} (k, e) (([], d) ∷ []) → U k e
  the_one U d u k e (inl p) = subst (λ (x : Key × E). U x.0 x.1) (sym p) u
  the_one U d u k e (inr h) = absurd h

  pub lists_one : (S : Key → E → Type 0) (d : E) → S [] d → ((e : E) → S [] e → e ≡ d) → Lists (upto S 0) (([], d) ∷ [])
  lists_one S d s a = record { each = one_yet S d a; only = the_one (upto S 0) d (tt, s); sorted = ((λ k e m. absurd m), tt) }

  at_root : (S : Key → E → Type 0) (d : E) → ((e : E) → S [] e → e ≡ d) → (k : Key) (e : E) → to S [] k e → In {X = Key × E} (k, e) (([], d) ∷ [])
  at_root S d a [] e h = inl (ap (λ (x : E). ([], x)) (a e h.1))
  at_root S d a (j ∷ k) e h = elim h.0 as (λ _. In {X = Key × E} (j ∷ k, e) (([], d) ∷ [])) [ inl b ↦ absurd b | inr q ↦ cc ]

  pub lists_root : (S : Key → E → Type 0) (d : E) → S [] d → ((e : E) → S [] e → e ≡ d) → Lists (to S []) (([], d) ∷ [])
  lists_root S d s a = record { each = at_root S d a; only = the_one (to S []) d (inr refl, s); sorted = ((λ k e m. absurd m), tt) }

  pub lists_like : (S T : Key → E → Type 0) (xs : List (Key × E)) → ((k : Key) (e : E) → S k e → T k e) → ((k : Key) (e : E) → T k e → S k e) → Lists S xs → Lists T xs
  lists_like S T xs f g a = record { each = λ k e t. a.each k e (g k e t); only = λ k e m. f k e (a.only k e m); sorted = a.sorted }
