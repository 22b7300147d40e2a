-- The lists of the search, as they are written.
use Rattle.std.proofs.Common.{ℕ, ◌+◌, ◌-◌, ◌<◌, ◌≤◌, ◌≡◌, ◌⊎◌, refl, sym, ap, ◌∙◌, arith, Bool, true, false, inl, inr, List, [], ◌∷◌, ◌++◌, length, get_or, take, set, length-take, length-set, length-append}
use Rattle.std.proofs.lemmas.List.{take_all, take-take, get_or-take, get_or-set_same, get_or-set_other, get_or_append_left, get_or-append-add}
use Rattle.cdl_search.specs.Graph.{Cut, DoneFrom}
use Rattle.cdl_search.proofs.Walking.{by_lt, by_eq, by_bool}

pub cut_start : (place : ℕ) (a c : List ℕ) → length c ≡ length a → Cut place a a c c
cut_start place a c h = record {
  fewer = omega arith;
  pairs = h;
  starts = sym (take_all (length a) a (omega arith));
  owed = sym (take_all (length a) c (omega (arith, h)));
  high = λ i l m. absurd (omega arith);
}

pub cut_next : (place : ℕ) (a b c d b' d' : List ℕ) → Cut place a b c d → 0 < length b → b' ≡ take (length b - 1) b → d' ≡ take (length d - 1) d → place < get_or b (length b - 1) 0 → Cut place a b' c d'
cut_next place a b c d b' d' k h e f g =
    let n : length b' ≡ length b - 1 = rw e (omega (arith, length-take (length b - 1) b)) in
    let m : length d' ≡ length b - 1 = rw f (omega (arith, length-take (length d - 1) d, k.pairs)) in
    let s : b' ≡ take (length b - 1) a = e ∙ ap (λ x. take (length b - 1) x) k.starts ∙ take-take (length b - 1) (length b) a (omega arith) in
    let t : d' ≡ take (length b - 1) c = f ∙ ap (λ i. take (i - 1) d) k.pairs ∙ ap (λ x. take (length b - 1) x) k.owed ∙ take-take (length b - 1) (length b) c (omega arith) in
    let q : get_or b (length b - 1) 0 ≡ get_or a (length b - 1) 0 = ap (λ x. get_or x (length b - 1) 0) k.starts ∙ get_or-take (length b) a (length b - 1) 0 (omega arith) in
    record {
      fewer = omega (arith, k.fewer, n);
      pairs = omega (arith, n, m);
      starts = rw n s;
      owed = rw n t;
      high = λ i l j. by_lt i (length b)
          (λ o. let r : i ≡ length b - 1 = omega (arith, n) in rw (r, ← q) g)
          (λ o. k.high i o j);
    }

pub done_start : (h m : List ℕ) (l : List Bool) (o : List ℕ) (a : ℕ) (many : Bool) → DoneFrom h m m l l o o a a many
done_start h m l o a many = record {
  marks = refl;
  flags = refl;
  gone = λ p x y. absurd (omega arith);
  kept = λ v f. refl;
  many = λ e p x y. absurd (omega arith);
  up = λ v e. e;
  down = λ v e. inl e;
  listed = omega arith;
  old = λ j x. refl;
  new = λ p x y. absurd (omega arith);
}

done_wider : (h : List ℕ) (l : List Bool) (u a p : ℕ) (many : Bool) → (get_or l u false ≡ true) ⊎ ((q : ℕ) × (a ≤ q) × (q < p) × (get_or h q 0 ≡ u) × (many ≡ true)) → (get_or l u false ≡ true) ⊎ ((q : ℕ) × (a ≤ q) × (q < p + 1) × (get_or h q 0 ≡ u) × (many ≡ true))
done_wider h l u a p many (inl c) = inl c
done_wider h l u a p many (inr c) = inr (c.0, c.1, omega (arith, c.2), c.3, c.4)

pub done_next : (h m m1 : List ℕ) (l l1 : List Bool) (o o1 : List ℕ) (a p v : ℕ) (many : Bool) (l2 : List Bool) → DoneFrom h m m1 l l1 o o1 a p many → a ≤ p → get_or h p 0 ≡ v → v < length m → length l ≡ length m → (many ≡ true → l2 ≡ set l1 v true) → (many ≡ false → l2 ≡ l1) → DoneFrom h m (set m1 v 1) l l2 o (o1 ++ v ∷ []) a (p + 1) many
done_next h m m1 l l1 o o1 a p v many l2 k ap' e w z sy sn =
    let wm : v < length m1 = omega (arith, k.marks) in
    let wl : v < length l1 = omega (arith, k.flags, z) in
    let flag : many ≡ true → get_or l2 v false ≡ true = λ c. rw (sy c) (get_or-set_same l1 v true false wl) in
    let keep : (u : ℕ) → (u ≡ v → ⊥) → get_or l2 u false ≡ get_or l1 u false = λ u f. by_bool many (λ c. rw (sy c) (get_or-set_other l1 v u true false f)) (λ c. rw (sn c) refl) in
    let at_p : (q : ℕ) → q < p + 1 → p ≤ q → get_or h q 0 ≡ v = λ q x y. let r : q ≡ p = omega arith in rw r e in
    let len : length o1 ≡ length o + (p - a) = k.listed in
    record {
      marks = omega (arith, length-set m1 v 1, k.marks);
      flags = by_bool many (λ c. rw (sy c) (omega (arith, length-set l1 v true, k.flags))) (λ c. rw (sn c) k.flags);
      gone = λ q x y. by_eq (get_or h q 0) v
          (λ c. rw c (get_or-set_same m1 v 1 0 wm))
          (λ c. get_or-set_other m1 v (get_or h q 0) 1 0 c ∙ by_lt q p (λ d. k.gone q x d) (λ d. absurd (c (at_p q y d))));
      kept = λ u f. get_or-set_other m1 v u 1 0 (λ c. f p ap' (omega arith) (e ∙ sym c)) ∙ k.kept u (λ q x y. f q x (omega arith));
      many = λ c q x y. by_eq (get_or h q 0) v
          (λ d. rw d (flag c))
          (λ d. keep (get_or h q 0) d ∙ by_lt q p (λ g. k.many c q x g) (λ g. absurd (d (at_p q y g))));
      up = λ u c. by_eq u v
          (λ d. by_bool many (λ g. rw d (flag g)) (λ g. rw (sn g) (k.up u c)))
          (λ d. keep u d ∙ k.up u c);
      down = λ u c. by_eq u v
          (λ d. by_bool many
          (λ g. inr (p, ap', omega arith, e ∙ sym d, g))
          (λ g. done_wider h l u a p many (k.down u (rw (sn g) at c))))
          (λ d. done_wider h l u a p many (k.down u (sym (keep u d) ∙ c)));
      listed = omega (arith, length-append o1 (v ∷ []), len);
      old = λ j x. get_or_append_left o1 (v ∷ []) 0 j (omega (arith, len)) ∙ k.old j x;
      new = λ q x y. by_lt q p
          (λ d. get_or_append_left o1 (v ∷ []) 0 (length o + (q - a)) (omega (arith, len)) ∙ k.new q x d)
          (λ d. let r : length o + (q - a) ≡ length o1 + 0 = omega (arith, len) in rw (r, at_p q y d) (get_or-append-add o1 (v ∷ []) 0 0));
    }

pub done_moved : {h m m' : List ℕ} {l l' : List Bool} {o o' : List ℕ} (a a' b b' : ℕ) (k k' : Bool) → DoneFrom h m m' l l' o o' a b k → a ≡ a' → b ≡ b' → k ≡ k' → DoneFrom h m m' l l' o o' a' b' k'
done_moved a a' b b' k k' d e f g = rw (← e, ← f, ← g) d
