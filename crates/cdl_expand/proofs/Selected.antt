-- What entries at keys bring, one after the other; and the entries below a key.
use Rattle.std.proofs.Common.{◌≡◌, ℕ, zero, suc, ◌+◌, ◌<◌, ◌==◌, true, cond, List, [], ◌∷◌, ◌++◌, append_assoc, refl, sym, ap, ◌∙◌, subst, arith, inl, inr}
use Rattle.std.proofs.lemmas.Bool.{eq-eqb, eqb-true, false≢true}
use Rattle.std.proofs.lemmas.List.{append-nil}
use Rattle.cdl_source.proofs.Cases.{by_bool}
use Rattle.cdl_stations.specs.Keys.{Key, Before, In, Sorted, Lists, Below, under, upto}
use Rattle.cdl_stations.proofs.Grown.{with_head, lists_step, lists_like}
use Rattle.cdl_stations.proofs.Unique.{lists_same}

abbrev tail_of : Key → Key
tail_of [] = []
tail_of (i ∷ k) = k

head_same : (i j : ℕ) (k l : Key) → i ∷ k ≡ j ∷ l → i ≡ j
head_same i j k l e = cc

tail_same : (i j : ℕ) (k l : Key) → i ∷ k ≡ j ∷ l → k ≡ l
tail_same i j k l e = cc

no_key : (i : ℕ) (k : Key) → i ∷ k ≡ [] → ⊥
no_key i k e = cc

-- so many lists, one behind the other
abbrev pub joined : {A : Type 0} → ℕ → (ℕ → List A) → List A
joined zero g = []
joined (suc n) g = joined n g ++ g n

pub joined_like : {A : Type 0} (n : ℕ) (f g : ℕ → List A) → ((i : ℕ) → i < n → f i ≡ g i) → joined n f ≡ joined n g
joined_like zero f g h = refl
joined_like {A} (suc n) f g h = ap (λ (l : List A). l ++ f n) (joined_like n f g (λ i m. h i (omega (arith, m)))) ∙ ap (λ (l : List A). joined n g ++ l) (h n (omega arith))

module _ {E : Type 0} where
  -- the entries below a number
  abbrev pub sub_one : ℕ → List (Key × E) → List (Key × E)
  sub_one i [] = []
  sub_one i (([], e) ∷ xs) = sub_one i xs
  sub_one i ((j ∷ k, e) ∷ xs) = cond (j == i) ((k, e) ∷ sub_one i xs) (sub_one i xs)

  pair_tail : (i j : ℕ) (k l : Key) (d e : E) → ◌≡◌ {A = Key × E} (i ∷ k, d) (j ∷ l, e) → ◌≡◌ {A = Key × E} (k, d) (l, e)
  pair_tail i j k l d e q = ap (λ (z : Key × E). (tail_of z.0, z.1)) q

  pub in_sub : (i : ℕ) (k : Key) (e : E) (xs : List (Key × E)) → In {X = Key × E} (i ∷ k, e) xs → In {X = Key × E} (k, e) (sub_one i xs)
  in_sub i k e [] m = absurd m
  in_sub i k e (([], d) ∷ xs) (inl f) = absurd (no_key i k (ap (λ (z : Key × E). z.0) f))
  in_sub i k e (([], d) ∷ xs) (inr m) = in_sub i k e xs m
  in_sub i k e ((j ∷ l, d) ∷ xs) (inl f) =
      let same : i ≡ j = head_same i j k l (ap (λ (z : Key × E). z.0) f) in
      subst (λ b. In {X = Key × E} (k, e) (cond b ((l, d) ∷ sub_one i xs) (sub_one i xs))) (sym (eq-eqb j i (sym same))) (inl (pair_tail i j k l e d f))
  in_sub i k e ((j ∷ l, d) ∷ xs) (inr m) = by_bool (j == i)
      (λ t. subst (λ b. In {X = Key × E} (k, e) (cond b ((l, d) ∷ sub_one i xs) (sub_one i xs))) (sym t) (inr (in_sub i k e xs m)))
      (λ t. subst (λ b. In {X = Key × E} (k, e) (cond b ((l, d) ∷ sub_one i xs) (sub_one i xs))) (sym t) (in_sub i k e xs m))

  pub of_sub : (i : ℕ) (k : Key) (e : E) (xs : List (Key × E)) → In {X = Key × E} (k, e) (sub_one i xs) → In {X = Key × E} (i ∷ k, e) xs
  of_sub i k e [] m = absurd m
  of_sub i k e (([], d) ∷ xs) m = inr (of_sub i k e xs m)
  of_sub i k e ((j ∷ l, d) ∷ xs) m = by_bool (j == i)
      (λ t. kept t (λ n. of_sub i k e xs n) (subst (λ b. In {X = Key × E} (k, e) (cond b ((l, d) ∷ sub_one i xs) (sub_one i xs))) t m))
      (λ t. inr (of_sub i k e xs (subst (λ b. In {X = Key × E} (k, e) (cond b ((l, d) ∷ sub_one i xs) (sub_one i xs))) t m)))
    where
      kept : (j == i) ≡ true → (In {X = Key × E} (k, e) (sub_one i xs) → In {X = Key × E} (i ∷ k, e) xs) → In {X = Key × E} (k, e) ((l, d) ∷ sub_one i xs) → In {X = Key × E} (i ∷ k, e) ((j ∷ l, d) ∷ xs)
      kept t rec (inl f) = inl (ap (λ (z : Key × E). (i ∷ z.0, z.1)) f ∙ ap (λ (n : ℕ). (n ∷ l, d)) (sym (eqb-true j i t)))
      kept t rec (inr n) = inr (rec n)

  sorted_sub : (i : ℕ) (xs : List (Key × E)) → Sorted xs → Sorted (sub_one i xs)
  sorted_sub i [] s = tt
  sorted_sub i (([], d) ∷ xs) s = sorted_sub i xs s.1
  sorted_sub i ((j ∷ l, d) ∷ xs) s = by_bool (j == i)
      (λ t. subst (λ b. Sorted (cond b ((l, d) ∷ sub_one i xs) (sub_one i xs))) (sym t) ((λ k e m. before t k (s.0 (i ∷ k) e (of_sub i k e xs m))), sorted_sub i xs s.1))
      (λ t. subst (λ b. Sorted (cond b ((l, d) ∷ sub_one i xs) (sub_one i xs))) (sym t) (sorted_sub i xs s.1))
    where
      before : (j == i) ≡ true → (k : Key) → Before (j ∷ l) (i ∷ k) → Before l k
      before t k (inl h) = absurd (let e : j ≡ i = eqb-true j i t in omega (arith, h, e))
      before t k (inr h) = h.1

  pub lists_sub : (S : Key → E → Type 0) (i : ℕ) (xs : List (Key × E)) → Lists S xs → Lists (under S i) (sub_one i xs)
  lists_sub S i xs l = record {
    each = λ k e s. in_sub i k e xs (l.each (i ∷ k) e s);
    only = λ k e m. l.only (i ∷ k) e (of_sub i k e xs m);
    sorted = sorted_sub i xs l.sorted;
  }

  -- a family with one event, at the key itself
  pub lists_single : (S : Key → E → Type 0) (x : E) → S [] x → ((k : Key) (e : E) → S k e → (k ≡ []) × (e ≡ x)) → Lists S (([], x) ∷ [])
  lists_single S x s f = record {
    each = λ k e h. let z = f k e h in inl (ap (λ (l : Key). (l, e)) z.0 ∙ ap (λ (d : E). ([], d)) z.1);
    only = λ k e m. the_one k e m;
    sorted = ((λ k e m. absurd m), tt);
  }
    where
      the_one : (k : Key) (e : E) → In {X = Key × E} (k, e) (([], x) ∷ []) → S k e
      the_one k e (inl p) = subst (λ (z : Key × E). S z.0 z.1) (sym p) s
      the_one k e (inr m) = absurd m

  -- the entries below a key
  abbrev pub sub : Key → List (Key × E) → List (Key × E)
  sub [] xs = xs
  sub (i ∷ k) xs = sub k (sub_one i xs)

  pub lists_below : (S : Key → E → Type 0) (k : Key) (xs : List (Key × E)) → Lists S xs → Lists (λ l e. S (k ++ l) e) (sub k xs)
  lists_below S [] xs l = l
  lists_below S (i ∷ k) xs l = lists_below (under S i) k (sub_one i xs) (lists_sub S i xs l)

  module _ {A : Type 0} (f : E → List A) where
    -- what all of them bring
    abbrev pub brought_by : List (Key × E) → List A
    brought_by [] = []
    brought_by (x ∷ xs) = f x.1 ++ brought_by xs

    pub brought_both : (xs ys : List (Key × E)) → brought_by (xs ++ ys) ≡ brought_by xs ++ brought_by ys
    brought_both [] ys = refl
    brought_both (x ∷ xs) ys = ap (λ (l : List A). f x.1 ++ l) (brought_both xs ys) ∙ sym (append_assoc (f x.1) (brought_by xs) (brought_by ys))

    brought_head : (i : ℕ) (xs : List (Key × E)) → brought_by (with_head i xs) ≡ brought_by xs
    brought_head i [] = refl
    brought_head i (x ∷ xs) = ap (λ (l : List A). f x.1 ++ l) (brought_head i xs)

    pub brought_none : (xs : List (Key × E)) → ((k : Key) (e : E) → In {X = Key × E} (k, e) xs → f e ≡ []) → brought_by xs ≡ []
    brought_none [] h = refl
    brought_none ((k, e) ∷ xs) h = ap (λ (l : List A). l ++ brought_by xs) (h k e (inl refl)) ∙ brought_none xs (λ l d m. h l d (inr m))

    -- where what isn't below a number brings nothing
    sub_all : (i : ℕ) (xs : List (Key × E)) → ((k : Key) (e : E) → In {X = Key × E} (k, e) xs → ((l : Key) → k ≡ i ∷ l → ⊥) → f e ≡ []) → brought_by xs ≡ brought_by (sub_one i xs)
    sub_all i [] h = refl
    sub_all i (([], e) ∷ xs) h = ap (λ (l : List A). l ++ brought_by xs) (h [] e (inl refl) (λ l q. no_key i l (sym q))) ∙ sub_all i xs (λ k d m. h k d (inr m))
    sub_all i ((j ∷ k, e) ∷ xs) h = by_bool (j == i)
        (λ t. ap (λ (l : List A). f e ++ l) (sub_all i xs (λ l d m. h l d (inr m))) ∙ ap (λ b. brought_by (cond b ((k, e) ∷ sub_one i xs) (sub_one i xs))) (sym t))
        (λ t. ap (λ (l : List A). l ++ brought_by xs) (h (j ∷ k) e (inl refl) (λ l q. false≢true (sym t ∙ eq-eqb j i (head_same j i k l q))))
        ∙ sub_all i xs (λ l d m. h l d (inr m)) ∙ ap (λ b. brought_by (cond b ((k, e) ∷ sub_one i xs) (sub_one i xs))) (sym t))

    -- where what isn't below a key brings nothing
    pub below_all : (k : Key) (xs : List (Key × E)) → ((j : Key) (e : E) → In {X = Key × E} (j, e) xs → ((l : Key) → j ≡ k ++ l → ⊥) → f e ≡ []) → brought_by xs ≡ brought_by (sub k xs)
    below_all [] xs h = refl
    below_all (i ∷ k) xs h =
        sub_all i xs (λ j e m g. h j e m (λ l q. g (k ++ l) q))
        ∙ below_all k (sub_one i xs) (λ j e m g. h (i ∷ j) e (of_sub i j e xs m) (λ l q. g l (tail_same i i j (k ++ l) q)))

    module _ (S : Key → E → Type 0) (first xs : List (Key × E)) (a : Lists (upto S 0) first) (l : Lists S xs) where
      built : ℕ → List (Key × E)
      built zero = first
      built (suc n) = built n ++ with_head n (sub_one n xs)

      lists_built : (n : ℕ) → Lists (upto S n) (built n)
      unfolding built
      lists_built zero = a
      lists_built (suc n) = let e : n + 1 ≡ suc n = omega arith in subst (λ m. Lists (upto S m) (built n ++ with_head n (sub_one n xs))) e (lists_step S n (built n) (sub_one n xs) (lists_built n) (lists_sub S n xs l))

      brought_built : (n : ℕ) → brought_by (built n) ≡ brought_by first ++ joined n (λ i. brought_by (sub_one i xs))
      unfolding built
      brought_built zero = sym (append-nil (brought_by first))
      brought_built (suc n) =
          brought_both (built n) (with_head n (sub_one n xs))
          ∙ ap (λ (z : List A). z ++ brought_by (with_head n (sub_one n xs))) (brought_built n)
          ∙ ap (λ (z : List A). (brought_by first ++ joined n (λ i. brought_by (sub_one i xs))) ++ z) (brought_head n (sub_one n xs))
          ∙ append_assoc (brought_by first) (joined n (λ i. brought_by (sub_one i xs))) (brought_by (sub_one n xs))

      -- what stands at the key itself, and then what stands below each number
      pub brought_parts : (n : ℕ) → ((k : Key) (e : E) → S k e → Below n k) → brought_by xs ≡ brought_by first ++ joined n (λ i. brought_by (sub_one i xs))
      brought_parts n f =
          let whole : Lists S (built n) = lists_like (upto S n) S (built n) (λ k e h. h.1) (λ k e h. (f k e h, h)) (lists_built n) in
          ap brought_by (lists_same S xs (built n) l whole) ∙ brought_built n
