-- There is one list of all that stands at keys, in order; and its fronts.
use Rattle.std.proofs.Common.{◌≡◌, List, [], ◌∷◌, ◌++◌, refl, sym, ap, ◌∙◌, subst, arith, inl, inr, ◌⊎◌}
use Rattle.cdl_stations.specs.Keys.{Key, Before, In, Sorted, Lists, to}
use Rattle.cdl_stations.proofs.Grown.{in_left, in_right, in_either}

pub before_asym : (a b : Key) → Before a b → Before b a → ⊥
before_asym [] [] h g = h
before_asym [] (n ∷ l) h g = g
before_asym (m ∷ k) [] h g = h
before_asym (m ∷ k) (n ∷ l) (inl h) (inl g) = absurd (omega (arith, h, g))
before_asym (m ∷ k) (n ∷ l) (inl h) (inr g) = absurd (omega (arith, h, g.0))
before_asym (m ∷ k) (n ∷ l) (inr h) (inl g) = absurd (omega (arith, h.0, g))
before_asym (m ∷ k) (n ∷ l) (inr h) (inr g) = before_asym k l h.1 g.1

pub before_self : (a b : Key) → a ≡ b → Before a b → ⊥
before_self a b e h = let g : Before a a = subst (λ (x : Key). Before a x) (sym e) h in before_asym a a g g

pub before_trans : (a b c : Key) → Before a b → Before b c → Before a c
before_trans a b [] h g = absurd g
before_trans [] b (n ∷ c) h g = tt
before_trans (m ∷ a) [] (n ∷ c) h g = absurd h
before_trans (m ∷ a) (i ∷ b) (n ∷ c) (inl h) (inl g) = inl (omega (arith, h, g))
before_trans (m ∷ a) (i ∷ b) (n ∷ c) (inl h) (inr g) = inl (omega (arith, h, g.0))
before_trans (m ∷ a) (i ∷ b) (n ∷ c) (inr h) (inl g) = inl (omega (arith, h.0, g))
before_trans (m ∷ a) (i ∷ b) (n ∷ c) (inr h) (inr g) = inr (h.0 ∙ g.0, before_trans a b c h.1 g.1)

module _ {E : Type 0} where
  heads : (x y : Key × E) (xs ys : List (Key × E)) → Sorted (x ∷ xs) → Sorted (y ∷ ys) → In x (y ∷ ys) → In y (x ∷ xs) → x ≡ y
  heads x y xs ys s t a b = elim a as (λ _. x ≡ y) [
    | inl e ↦ e
    | inr m ↦ elim b as (λ _. x ≡ y) [ inl e ↦ sym e | inr n ↦ absurd (before_asym x.0 y.0 (s.0 y.0 y.1 n) (t.0 x.0 x.1 m)) ]
  ]

  tails : (x y k : Key × E) (xs ys : List (Key × E)) → Sorted (x ∷ xs) → x ≡ y → In k xs → In k (y ∷ ys) → In k ys
  tails x y k xs ys s e h m = elim m as (λ _. In k ys) [
    | inl f ↦ absurd (before_self x.0 k.0 (ap (λ (z : Key × E). z.0) (e ∙ sym f)) (s.0 k.0 k.1 h))
    | inr n ↦ n
  ]

  same_lists : (xs ys : List (Key × E)) → Sorted xs → Sorted ys → ((k : Key × E) → In k xs → In k ys) → ((k : Key × E) → In k ys → In k xs) → xs ≡ ys
  same_lists [] [] s t f g = refl
  same_lists [] (y ∷ ys) s t f g = absurd (g y (inl refl))
  same_lists (x ∷ xs) [] s t f g = absurd (f x (inl refl))
  same_lists (x ∷ xs) (y ∷ ys) s t f g =
      let e : x ≡ y = heads x y xs ys s t (f x (inl refl)) (g y (inl refl)) in
      let rest : xs ≡ ys = same_lists xs ys s.1 t.1 (λ k h. tails x y k xs ys s e h (f k (inr h))) (λ k h. tails y x k ys xs t (sym e) h (g k (inr h))) in
      ap (λ (z : Key × E). z ∷ xs) e ∙ ap (λ (zs : List (Key × E)). y ∷ zs) rest

  pub lists_same : (S : Key → E → Type 0) (xs ys : List (Key × E)) → Lists S xs → Lists S ys → xs ≡ ys
  lists_same S xs ys a b = same_lists xs ys a.sorted b.sorted (λ k h. b.each k.0 k.1 (a.only k.0 k.1 h)) (λ k h. a.each k.0 k.1 (b.only k.0 k.1 h))

  pub sorted_front : (xs ys : List (Key × E)) → Sorted (xs ++ ys) → Sorted xs
  sorted_front [] ys s = tt
  sorted_front (x ∷ xs) ys s = (λ k e h. s.0 k e (in_left {X = Key × E} (k, e) xs ys h), sorted_front xs ys s.1)

  pub sorted_across : (xs ys : List (Key × E)) (k l : Key) (d e : E) → Sorted (xs ++ ys) → In {X = Key × E} (k, d) xs → In {X = Key × E} (l, e) ys → Before k l
  sorted_across [] ys k l d e s h m = absurd h
  sorted_across (x ∷ xs) ys k l d e s (inl p) m = subst (λ (z : Key). Before z l) (sym (ap (λ (z : Key × E). z.0) p)) (s.0 l e (in_right {X = Key × E} (l, e) xs ys m))
  sorted_across (x ∷ xs) ys k l d e s (inr h) m = sorted_across xs ys k l d e s.1 h m

  front_only : (ys : List (Key × E)) (j : Key) (d : E) (zs : List (Key × E)) → Sorted ((ys ++ (j, d) ∷ []) ++ zs) → (l : Key) (e : E) → In {X = Key × E} (l, e) (ys ++ (j, d) ∷ []) → Before l j ⊎ (l ≡ j)
  front_only ys j d zs s l e h = elim (in_either {X = Key × E} (l, e) ys ((j, d) ∷ []) h) as (λ _. Before l j ⊎ (l ≡ j)) [
    | inl m ↦ inl (sorted_across ys ((j, d) ∷ []) l j e d (sorted_front (ys ++ (j, d) ∷ []) zs s) m (inl refl))
    | inr m ↦ elim m as (λ _. Before l j ⊎ (l ≡ j)) [ inl p ↦ inr (ap (λ (z : Key × E). z.0) p) | inr n ↦ absurd n ]
  ]

  front_each : (ys : List (Key × E)) (j : Key) (d : E) (zs : List (Key × E)) → Sorted ((ys ++ (j, d) ∷ []) ++ zs) → (l : Key) (e : E) → (Before l j ⊎ (l ≡ j))
      → In {X = Key × E} (l, e) ((ys ++ (j, d) ∷ []) ++ zs) → In {X = Key × E} (l, e) (ys ++ (j, d) ∷ [])
  front_each ys j d zs s l e b h = elim (in_either {X = Key × E} (l, e) (ys ++ (j, d) ∷ []) zs h) as (λ _. In {X = Key × E} (l, e) (ys ++ (j, d) ∷ [])) [
    | inl m ↦ m
    | inr m ↦ (let after : Before j l = sorted_across (ys ++ (j, d) ∷ []) zs j l d e s (in_right {X = Key × E} (j, d) ys ((j, d) ∷ []) (inl refl)) m in
        elim b as (λ _. In {X = Key × E} (l, e) (ys ++ (j, d) ∷ [])) [ inl g ↦ absurd (before_asym j l after g) | inr g ↦ absurd (before_self j l (sym g) after) ])
  ]

  -- the front of a list up to a key is the list of what stands up to that key
  pub lists_front : (S T : Key → E → Type 0) (ys zs : List (Key × E)) (j : Key) (d : E) → ((l : Key) (e : E) → Before l j ⊎ (l ≡ j) → S l e → T l e) → ((l : Key) (e : E) → T l e → S l e)
      → Lists T ((ys ++ (j, d) ∷ []) ++ zs) → Lists (to S j) (ys ++ (j, d) ∷ [])
  lists_front S T ys zs j d f g a = record {
    each = λ l e h. front_each ys j d zs a.sorted l e h.0 (a.each l e (f l e h.0 h.1));
    only = λ l e h. (front_only ys j d zs a.sorted l e h, g l e (a.only l e (in_left {X = Key × E} (l, e) (ys ++ (j, d) ∷ []) zs h)));
    sorted = sorted_front (ys ++ (j, d) ∷ []) zs a.sorted;
  }
