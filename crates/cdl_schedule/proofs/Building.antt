-- Rows, as they are written.
use Rattle.std.proofs.Common.{ℕ, ◌+◌, ◌-◌, ◌<◌, ◌≤◌, ◌≡◌, refl, sym, ap, ◌∙◌, subst, arith, Bool, true, false, List, [], ◌∷◌, ◌++◌, length, get_or}
use Rattle.cdl_source.proofs.Cases.{by_lt}
use Rattle.std.proofs.lemmas.List.{get_or_append_left, get_or-append_right, length_push}
use Rattle.cdl_schedule.specs.inner.Rows.{AreRows, added}

pub old_at : (xs : List ℕ) (z k : ℕ) → k < length xs → get_or (xs ++ z ∷ []) k 0 ≡ get_or xs k 0
old_at xs z k h = get_or_append_left xs (z ∷ []) 0 k h

pub new_at : (xs : List ℕ) (z k : ℕ) → k ≡ length xs → get_or (xs ++ z ∷ []) k 0 ≡ z
new_at xs z k e =
    let r = get_or-append_right xs (z ∷ []) (length xs) k 0 refl (omega arith) in
    let i : k - length xs ≡ 0 = omega arith in
    r ∙ ap (λ j. get_or (z ∷ []) j 0) i

pub rows_start : (D : ℕ → ℕ → Type 0) (top : ℕ) (first edges : List ℕ) → length first ≡ 1 → get_or first 0 0 ≡ 0 → edges ≡ [] → AreRows D top 0 0 first edges
rows_start D top first edges l z e =
    let n : length edges ≡ 0 = ap length e in
    record {
      size = omega arith;
      rises = λ w h. absurd (omega arith);
      ends = λ w h. let i : w ≡ 0 = omega arith in let a : get_or first w 0 ≡ 0 = ap (λ j. get_or first j 0) i ∙ z in omega (arith, a);
      inside = λ k h. absurd (omega (arith, n));
      each = λ u w h d. absurd (omega arith);
      only = λ k w h a b. absurd (omega arith);
      has = λ u h d. absurd (omega arith);
      had = λ k a h. absurd (omega (arith, n));
    }

pub rows_pass : (D : ℕ → ℕ → Type 0) (top v x y : ℕ) (first edges : List ℕ) → AreRows D top v x first edges → ((u : ℕ) → x ≤ u → u < y → D u v → ⊥) → AreRows D top v y first edges
rows_pass D top v x y first edges r f = record {
  size = r.size;
  rises = r.rises;
  ends = r.ends;
  inside = r.inside;
  each = r.each;
  only = r.only;
  has = λ u h d. by_lt u x (λ a. r.has u a d) (λ a. absurd (f u a h d));
  had = r.had;
}

pub rows_add : (D : ℕ → ℕ → Type 0) (top v x : ℕ) (first edges : List ℕ) → AreRows D top v x first edges → x < top → D x v → AreRows D top v (x + 1) first (edges ++ x ∷ [])
rows_add D top v x first edges r b d =
    let l = length_push edges x in
    record {
      size = r.size;
      rises = r.rises;
      ends = λ w h. let a = r.ends w h in omega (arith, l, a);
      inside = λ k h. by_lt k (length edges)
          (λ a. let e = old_at edges x k a in let i = r.inside k a in omega (arith, e, i))
          (λ a. let q : k ≡ length edges = omega (arith, l) in let e = new_at edges x k q in omega (arith, e));
      each = λ u w h p.
          let k = r.each u w h p in
          let m : k.0 < length edges = let a = r.ends (w + 1) (omega arith) in let c = k.2 in omega (arith, a, c) in
          (k.0, k.1, k.2, old_at edges x k.0 m ∙ k.3);
      only = λ k w h a c.
          let m : k < length edges = let i = r.ends (w + 1) (omega arith) in omega (arith, i) in
          subst (λ z. D z w) (sym (old_at edges x k m)) (r.only k w h a c);
      has = λ u h p. by_lt u x
          (λ a. let k = r.has u a p in let m = k.2 in (k.0, k.1, omega (arith, l, m), old_at edges x k.0 m ∙ k.3))
          (λ a. let q : x ≡ u = omega arith in let i = r.ends v (omega arith) in (length edges, i, omega (arith, l), new_at edges x (length edges) refl ∙ q));
      had = λ k a h. by_lt k (length edges)
          (λ c. subst (λ z. D z v) (sym (old_at edges x k c)) (r.had k a c))
          (λ c. let q : k ≡ length edges = omega (arith, l) in subst (λ z. D z v) (sym (new_at edges x k q)) d);
    }

pub rows_end : (D : ℕ → ℕ → Type 0) (top v x : ℕ) (first edges : List ℕ) → AreRows D top v x first edges → ((u : ℕ) → D u v → u < x) → AreRows D top (v + 1) 0 (first ++ length edges ∷ []) edges
rows_end D top v x first edges r f =
    let z : ℕ = length edges in
    let l = length_push first z in
    let s = r.size in
    let old : (w : ℕ) → w < v + 1 → get_or (first ++ z ∷ []) w 0 ≡ get_or first w 0 = λ w h. old_at first z w (omega (arith, s)) in
    let new : get_or (first ++ z ∷ []) (v + 1) 0 ≡ z = new_at first z (v + 1) (omega (arith, s)) in
    let step : (w : ℕ) → w ≡ v → get_or (first ++ z ∷ []) (w + 1) 0 ≡ z = λ w e. ap (λ i. get_or (first ++ z ∷ []) (i + 1) 0) e ∙ new in
    record {
      size = omega (arith, l, s);
      rises = λ w h. by_lt w v
          (λ a. let p = old w (omega arith) in let q = old (w + 1) (omega arith) in let i = r.rises w a in omega (arith, p, q, i))
          (λ a. let p = old w (omega arith) in let q = step w (omega arith) in let i = r.ends w (omega arith) in omega (arith, p, q, i));
      ends = λ w h. by_lt w (v + 1)
          (λ a. let p = old w a in let i = r.ends w a in omega (arith, p, i))
          (λ a. let e : w ≡ v + 1 = omega arith in let p : get_or (first ++ z ∷ []) w 0 ≡ z = ap (λ i. get_or (first ++ z ∷ []) i 0) e ∙ new in omega (arith, p));
      inside = r.inside;
      each = λ u w h d. by_lt w v
          (λ a. let p = old w (omega arith) in let q = old (w + 1) (omega arith) in let k = r.each u w a d in
          let i = k.1 in let j = k.2 in (k.0, omega (arith, p, i), omega (arith, q, j), k.3))
          (λ a. let e : w ≡ v = omega arith in let p = old w (omega arith) in let q = step w e in
          let d2 : D u v = subst (λ y. D u y) e d in
          let k = r.has u (f u d2) d2 in
          let t : get_or first w 0 ≡ get_or first v 0 = ap (λ y. get_or first y 0) e in
          let i = k.1 in let j = k.2 in (k.0, omega (arith, p, i, t), omega (arith, q, j), k.3));
      only = λ k w h a b. by_lt w v
          (λ c. let p = old w (omega arith) in let q = old (w + 1) (omega arith) in r.only k w c (omega (arith, p)) (omega (arith, q)))
          (λ c. let e : w ≡ v = omega arith in let p = old w (omega arith) in let q = step w e in
          let t : get_or first w 0 ≡ get_or first v 0 = ap (λ y. get_or first y 0) e in
          subst (λ y. D (get_or edges k 0) y) (sym e) (r.had k (omega (arith, p, t)) (omega (arith, q))));
      has = λ u h d. absurd (omega arith);
      had = λ k a h. absurd (omega (arith, new));
    }

-- one more where it is wanted
pub rows_next : (D : ℕ → ℕ → Type 0) (top v x : ℕ) (wanted : Bool) (first edges edges2 : List ℕ) → AreRows D top v x first edges → x < top → edges2 ≡ added wanted edges x → (wanted ≡ true → D x v) → (wanted ≡ false → D x v → ⊥) → AreRows D top v (x + 1) first edges2
rows_next D top v x true first edges edges2 r b e f g = subst (λ z. AreRows D top v (x + 1) first z) (sym e) (rows_add D top v x first edges r b (f refl))
rows_next D top v x false first edges edges2 r b e f g = subst (λ z. AreRows D top v (x + 1) first z) (sym e) (rows_pass D top v x (x + 1) first edges r (λ u i j d. let q : u ≡ x = omega arith in g refl (subst (λ y. D y v) q d)))
