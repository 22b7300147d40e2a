-- What each step of the search keeps.
use Rattle.std.proofs.Common.{ℕ, zero, suc, ◌+◌, ◌<◌, ◌≤◌, ◌≡◌, ◌⊎◌, refl, sym, ap, ◌∙◌, subst, arith, true, false, inl, inr}
use Rattle.cdl_search.specs.Walks.{Walk, Reach, OnLoop}
use Rattle.cdl_search.specs.Search.{Stacks, OpenAt, TodoAt, Owed, Inv, Opens, Merges, Skips, Closes}
use Rattle.std.proofs.lemmas.Bool.{false≢true}
use Rattle.cdl_search.proofs.Walking.{by_lt, by_eq, reach_from, reach_join, reach_here, loop_between, loop_from, by_bool}

-- the last of the todo list determines an open vertex of the last segment, and so every open vertex
pub top_reaches : (D : ℕ → ℕ → Type 0) (x : Stacks) (a p : ℕ) → Inv D x → a < x.nw → ((i : ℕ) → i < x.nb → x.bw i ≤ a) → p < x.ns → (v : ℕ) × D (x.todo_at a) v × Reach D v (x.open_at p)
top_reaches D x a p k h t l =
    let o : Owed D x a = k.todo a h in
    let q = k.opened o.owner o.place o.is in
    let r : Reach D (x.open_at o.place) (x.open_at p) = by_lt o.place p
    (λ m. k.segment o.place p (omega arith) l (λ i j _. o.up i j (t i j)))
    (λ m. k.back p o.place m q.0) in
    (o.owner, o.step, subst (λ z. Reach D z (x.open_at p)) q.1 r)

-- a vertex that isn't new is another than a new one
other : (f : ℕ → ℕ) (u v n : ℕ) → f u ≡ 0 → f v ≡ suc n → v ≡ u → ⊥
other f u v n h k e = let q : f v ≡ f u = ap f e in omega arith

-- a segment that begins at or below the place of an older vertex is an older one
past : {P : Type 0} (D : ℕ → ℕ → Type 0) (x y : Stacks) (a u i p : ℕ) → Opens D x y a u → i < y.nb → p < x.ns → y.bs i ≤ p → (i < x.nb → x.bs i ≤ p → P) → P
past {P} D x y a u i p z h l m f = by_lt i x.nb
    (λ j. f j (rw (z.bs_old i j) at m))
    (λ j. let e : i ≡ x.nb = omega (arith, z.nb) in let q : y.bs i ≡ x.ns = ap y.bs e ∙ z.bs_new in absurd (omega arith))

pub open_keeps : (D : ℕ → ℕ → Type 0) (x y : Stacks) (a u : ℕ) → Inv D x → Opens D x y a u → Inv D y
open_keeps D x y a u k z =
    let bw_low : (i : ℕ) → i < y.nb → y.bw i ≤ a = λ i h. by_lt i x.nb
    (λ l. rw (z.bw_old i l) (z.low i l))
    (λ l. let e : i ≡ x.nb = omega (arith, z.nb) in rw (e, z.bw_new) (omega arith)) in
    let bs_low : (i : ℕ) → i < y.nb → y.bs i ≤ x.ns = λ i h. by_lt i x.nb
    (λ l. rw (z.bs_old i l) (omega (arith, (k.starts i l).0)))
    (λ l. let e : i ≡ x.nb = omega (arith, z.nb) in rw (e, z.bs_new) (omega arith)) in
    let old : (v n : ℕ) → x.mark v ≡ suc n → y.mark v ≡ suc n = λ v n h. z.mark_v v (other x.mark u v n z.fresh h) ∙ h in
    record {
      opened = λ v p h. by_eq v u
          (λ e. let q : suc (suc p) ≡ suc (suc x.ns) = sym h ∙ ap y.mark e ∙ z.mark_u in
          let r : p ≡ x.ns = omega arith in
          (omega (arith, z.ns), ap y.open_at r ∙ z.open_new ∙ sym e))
          (λ e. let o = k.opened v p (sym (z.mark_v v e) ∙ h) in (omega (arith, z.ns, o.0), z.open_old p o.0 ∙ o.1));
      placed = λ p h. by_lt p x.ns
          (λ l. rw (z.open_old p l) (old (x.open_at p) (suc p) (k.placed p l)))
          (λ l. let r : p ≡ x.ns = omega (arith, z.ns) in rw (r, z.open_new) z.mark_u);
      closed = λ v t h d. by_eq v u
          (λ e. let q : 1 ≡ suc (suc x.ns) = sym h ∙ ap y.mark e ∙ z.mark_u in absurd (omega arith))
          (λ e. old t 0 (k.closed v t (sym (z.mark_v v e) ∙ h) d));
      edges = λ v p t h d. by_eq v u
          (λ e. let q : suc (suc p) ≡ suc (suc x.ns) = sym h ∙ ap y.mark e ∙ z.mark_u in
          let i = z.todo_in t (subst (λ c. D t c) e d) in
          inr (inr (record { place = i.0; within = i.2; is = i.3; below = λ j l _. omega (arith, bw_low j l, i.1) })))
          (λ e. let h' : x.mark v ≡ suc (suc p) = sym (z.mark_v v e) ∙ h in
          let o = k.opened v p h' in
          elim (k.edges v p t h' d) as (λ _. (y.mark t ≡ 1) ⊎ (OpenAt y v p t ⊎ TodoAt y p t)) [
            | inl m ↦ inl (old t 0 m)
            | inr c ↦ elim c as (λ _. (y.mark t ≡ 1) ⊎ (OpenAt y v p t ⊎ TodoAt y p t)) [
              | inl m ↦ inr (inl (record { place = m.place; is = old t (suc m.place) m.is; below = λ i l g. past D x y a u i p z l o.0 g (λ j b. rw (z.bs_old i j) (m.below i j b)); self = λ r. z.looped v ∙ m.self r }))
              | inr m ↦ elim (z.rest m.place m.within) as (λ _. (y.mark t ≡ 1) ⊎ (OpenAt y v p t ⊎ TodoAt y p t)) [
                | inl n ↦ inr (inr (record { place = m.place; within = omega (arith, z.nw); is = z.todo_old m.place n ∙ m.is; below = λ i l g. past D x y a u i p z l o.0 g (λ j b. rw (z.bw_old i j) (m.below i j b)) }))
                | inr n ↦
                    let r : t ≡ u = sym m.is ∙ n in
                    inr (inl (record { place = x.ns; is = ap y.mark r ∙ z.mark_u; below = λ i l g. bs_low i l; self = λ f. absurd (e (sym f ∙ r)) }))
              ]
            ]
          ]);
      todo = λ b l. by_lt b a
          (λ m. let o = k.todo b (omega (arith, z.size)) in
          let q = k.opened o.owner o.place o.is in
          record {
            owner = o.owner;
            place = o.place;
            is = old o.owner (suc o.place) o.is;
            step = rw (z.todo_old b m) o.step;
            up = λ i h g. by_lt i x.nb (λ j. rw (z.bs_old i j) (o.up i j (rw (z.bw_old i j) at g)))
                (λ j. let e : i ≡ x.nb = omega (arith, z.nb) in let w : y.bw i ≡ a = ap y.bw e ∙ z.bw_new in absurd (omega arith));
            down = λ i h g. past D x y a u i o.place z h q.0 g (λ j c. rw (z.bw_old i j) (o.down i j c));
          })
          (λ m. record { owner = u; place = x.ns; is = z.mark_u; step = z.todo_out b m l; up = λ i h _. bs_low i h; down = λ i h _. let g = bw_low i h in omega (arith, g) });
      back = λ p q h l. by_lt q x.ns
          (λ m. let n : p < x.ns = omega arith in rw (z.open_old p n, z.open_old q m) (k.back p q h m))
          (λ m. let r : q ≡ x.ns = omega (arith, z.ns) in by_lt p x.ns
          (λ n. rw (r, z.open_new, z.open_old p n) (z.reaches p n))
          (λ n. let s : p ≡ q = omega arith in rw s (reach_here D (y.open_at q))));
      segment = λ p q h l b. by_lt q x.ns
          (λ m. let n : p < x.ns = omega arith in rw (z.open_old p n, z.open_old q m) (k.segment p q h m (λ i j g.
          let c : y.bs i ≤ p = b i (omega (arith, z.nb)) (rw (z.bs_old i j) g) in rw (z.bs_old i j) at c)))
          (λ m. let c : y.bs x.nb ≤ p = b x.nb (omega (arith, z.nb)) (rw z.bs_new m) in
          let s : p ≡ q = omega (arith, z.bs_new, z.ns) in rw s (reach_here D (y.open_at q)));
      real = λ v h. k.real v (sym (z.looped v) ∙ h);
      free = λ v h f w. by_eq v u
          (λ e. let q : 1 ≡ suc (suc x.ns) = sym h ∙ ap y.mark e ∙ z.mark_u in absurd (omega arith))
          (λ e. k.free v (sym (z.mark_v v e) ∙ h) (sym (z.looped v) ∙ f) w);
      starts = λ i h. (let g = bs_low i h in omega (arith, z.ns, g), let g = bw_low i h in omega (arith, z.nw, g));
      rising = λ i j h l. by_lt j x.nb
          (λ m. let n : i < x.nb = omega arith in rw (z.bs_old i n, z.bs_old j m, z.bw_old i n, z.bw_old j m) (k.rising i j h m))
          (λ m. let r : j ≡ x.nb = omega (arith, z.nb) in let f : i < y.nb = omega arith in let e : i < x.nb = omega arith in let g = k.starts i e in rw (r, z.bs_new, z.bw_new) (rw (z.bs_old i e) (g.0), bw_low i f));
      first = λ h. by_lt 0 x.nb
          (λ m. rw (z.bs_old 0 m, z.bw_old 0 m) (k.first m))
          (λ m. let e : x.nb ≡ 0 = omega arith in let n = k.none e in
          let b : y.bs 0 ≡ 0 = ap y.bs (sym e) ∙ z.bs_new ∙ n.0 in
          let c : y.bw 0 ≡ 0 = ap y.bw (sym e) ∙ z.bw_new ∙ omega (arith, z.size, n.1) in (b, c));
      none = λ h. absurd (omega (arith, z.nb));
    }

pub skip_keeps : (D : ℕ → ℕ → Type 0) (x y : Stacks) (a u : ℕ) → Inv D x → Skips x y a u → Inv D y
skip_keeps D x y a u k z =
    let tb : (i : ℕ) → i < y.nb → i < x.nb = λ i h. omega (arith, z.nb) in
    record {
      opened = λ v p h. let o = k.opened v p (sym (z.mark v) ∙ h) in (omega (arith, z.ns, o.0), z.opens p o.0 ∙ o.1);
      placed = λ p h. let l : p < x.ns = omega (arith, z.ns) in rw (z.opens p l, z.mark (x.open_at p)) (k.placed p l);
      closed = λ v t h d. z.mark t ∙ k.closed v t (sym (z.mark v) ∙ h) d;
      edges = λ v p t h d. elim (k.edges v p t (sym (z.mark v) ∙ h) d) as (λ _. (y.mark t ≡ 1) ⊎ (OpenAt y v p t ⊎ TodoAt y p t)) [
        | inl m ↦ inl (z.mark t ∙ m)
        | inr c ↦ elim c as (λ _. (y.mark t ≡ 1) ⊎ (OpenAt y v p t ⊎ TodoAt y p t)) [
          | inl m ↦ inr (inl (record { place = m.place; is = z.mark t ∙ m.is; below = λ i l g. rw (z.bs i (tb i l)) (m.below i (tb i l) (rw (z.bs i (tb i l)) at g)); self = λ r. z.looped v ∙ m.self r }))
          | inr m ↦ by_lt m.place a
              (λ n. inr (inr (record { place = m.place; within = omega (arith, z.nw); is = z.todos m.place n ∙ m.is; below = λ i l g. rw (z.bw i (tb i l)) (m.below i (tb i l) (rw (z.bs i (tb i l)) at g)) })))
              (λ n. let w = m.within in let e : m.place ≡ a = omega (arith, z.last) in
              let r : t ≡ u = sym m.is ∙ ap x.todo_at e ∙ z.at in inl (rw r (z.mark u ∙ z.is)))
        ]
      ];
      todo = λ b l. let m : b < a = omega (arith, z.nw) in let o = k.todo b (omega (arith, z.last)) in
          record {
            owner = o.owner;
            place = o.place;
            is = z.mark o.owner ∙ o.is;
            step = rw (z.todos b m) o.step;
            up = λ i h g. rw (z.bs i (tb i h)) (o.up i (tb i h) (rw (z.bw i (tb i h)) at g));
            down = λ i h g. rw (z.bw i (tb i h)) (o.down i (tb i h) (rw (z.bs i (tb i h)) at g));
          };
      back = λ p q h l. let m : q < x.ns = omega (arith, z.ns) in let n : p < x.ns = omega arith in rw (z.opens p n, z.opens q m) (k.back p q h m);
      segment = λ p q h l b. let m : q < x.ns = omega (arith, z.ns) in let n : p < x.ns = omega arith in
          rw (z.opens p n, z.opens q m) (k.segment p q h m (λ i j g. rw (z.bs i j) at (b i (omega (arith, z.nb)) (rw (z.bs i j) g))));
      real = λ v h. k.real v (sym (z.looped v) ∙ h);
      free = λ v h f w. k.free v (sym (z.mark v) ∙ h) (sym (z.looped v) ∙ f) w;
      starts = λ i h. let s = k.starts i (tb i h) in let g = z.low_todo i (tb i h) in rw (z.bs i (tb i h), z.bw i (tb i h)) (omega (arith, s.0, z.ns), omega (arith, g, z.nw));
      rising = λ i j h l. let m = tb j l in let n : i < x.nb = omega arith in rw (z.bs i n, z.bs j m, z.bw i n, z.bw j m) (k.rising i j h m);
      first = λ h. let m = tb 0 h in rw (z.bs 0 m, z.bw 0 m) (k.first m);
      none = λ h. let n = k.none (sym z.nb ∙ h) in absurd (omega (arith, n.1, z.last));
    }

pub merge_keeps : (D : ℕ → ℕ → Type 0) (x y : Stacks) (a u b : ℕ) → Inv D x → Merges x y a u b → Inv D y
merge_keeps D x y a u b k z =
    let tb : (i : ℕ) → i < y.nb → i < x.nb = λ i h. omega (arith, z.nb) in
    let up : (v : ℕ) → x.looped v ≡ true → y.looped v ≡ true = λ v h. by_eq v u (λ e. ap y.looped e ∙ z.flag_u) (λ e. z.flag_v v e ∙ h) in
    let low : (i : ℕ) → i < y.nb → y.bs i ≤ b = λ i h. rw (z.bs i h) (z.low i h) in
    let o = k.opened u b z.is in
    let al : a < x.nw = omega (arith, z.last) in
    let all : (p : ℕ) → p < x.ns → Reach D u (x.open_at p) = λ p h.
    let r = top_reaches D x a p k al z.low_todo h in
    reach_from D u r.0 (x.open_at p) (subst (λ c. D c r.0) z.at r.1) r.2 in
    let real : OnLoop D u =
    let r = top_reaches D x a b k al z.low_todo o.0 in
    loop_from D u r.0 (subst (λ c. D c r.0) z.at r.1) (subst (λ c. Reach D r.0 c) o.1 r.2) in
    record {
      opened = λ v p h. let o = k.opened v p (sym (z.mark v) ∙ h) in (omega (arith, z.ns, o.0), z.opens p o.0 ∙ o.1);
      placed = λ p h. let l : p < x.ns = omega (arith, z.ns) in rw (z.opens p l, z.mark (x.open_at p)) (k.placed p l);
      closed = λ v t h d. z.mark t ∙ k.closed v t (sym (z.mark v) ∙ h) d;
      edges = λ v p t h d. elim (k.edges v p t (sym (z.mark v) ∙ h) d) as (λ _. (y.mark t ≡ 1) ⊎ (OpenAt y v p t ⊎ TodoAt y p t)) [
        | inl m ↦ inl (z.mark t ∙ m)
        | inr c ↦ elim c as (λ _. (y.mark t ≡ 1) ⊎ (OpenAt y v p t ⊎ TodoAt y p t)) [
          | inl m ↦ inr (inl (record { place = m.place; is = z.mark t ∙ m.is; below = λ i l g. rw (z.bs i l) (m.below i (tb i l) (rw (z.bs i l) at g)); self = λ r. up v (m.self r) }))
          | inr m ↦ by_lt m.place a
              (λ n. inr (inr (record { place = m.place; within = omega (arith, z.nw); is = z.todos m.place n ∙ m.is; below = λ i l g. rw (z.bw i l) (m.below i (tb i l) (rw (z.bs i l) at g)) })))
              (λ n. let w = m.within in let e : m.place ≡ a = omega (arith, z.last) in
              let r : t ≡ u = sym m.is ∙ ap x.todo_at e ∙ z.at in
              inr (inl (record { place = b; is = ap y.mark r ∙ z.mark u ∙ z.is; below = λ i l g. low i l; self = λ f. ap y.looped (sym f ∙ r) ∙ z.flag_u })))
        ]
      ];
      todo = λ c l. let m : c < a = omega (arith, z.nw) in let o = k.todo c (omega (arith, z.last)) in
          record {
            owner = o.owner;
            place = o.place;
            is = z.mark o.owner ∙ o.is;
            step = rw (z.todos c m) o.step;
            up = λ i h g. rw (z.bs i h) (o.up i (tb i h) (rw (z.bw i h) at g));
            down = λ i h g. rw (z.bw i h) (o.down i (tb i h) (rw (z.bs i h) at g));
          };
      back = λ p q h l. let m : q < x.ns = omega (arith, z.ns) in let n : p < x.ns = omega arith in rw (z.opens p n, z.opens q m) (k.back p q h m);
      segment = λ p q h l f. let m : q < x.ns = omega (arith, z.ns) in let n : p < x.ns = omega arith in
          let f' : (i : ℕ) → i < y.nb → x.bs i ≤ q → x.bs i ≤ p = λ i j g. rw (z.bs i j) at (f i j (rw (z.bs i j) g)) in
          rw (z.opens p n, z.opens q m) (by_lt b q
          (λ c. let to_u : Reach D (x.open_at p) (x.open_at b) = by_lt p b
          (λ d. k.segment p b (omega arith) o.0 (λ i j g. by_lt i y.nb
          (λ w. let g' = z.low i w in f' i w (omega (arith, g')))
          (λ w. let g' = z.high i w j in absurd (omega (arith, g')))))
          (λ d. k.back b p d n) in
          reach_join D (x.open_at p) (x.open_at b) (x.open_at q) to_u (subst (λ c. Reach D c (x.open_at q)) (sym o.1) (all q m)))
          (λ c. k.segment p q h m (λ i j g. by_lt i y.nb
          (λ w. f' i w g)
          (λ w. let g' = z.high i w j in absurd (omega (arith, g'))))));
      real = λ v h. by_eq v u (λ e. subst (λ c. OnLoop D c) (sym e) real) (λ e. k.real v (sym (z.flag_v v e) ∙ h));
      free = λ v h f w. by_eq v u
          (λ e. let q : 1 ≡ suc (suc b) = sym h ∙ z.mark v ∙ ap x.mark e ∙ z.is in absurd (omega arith))
          (λ e. k.free v (sym (z.mark v) ∙ h) (sym (z.flag_v v e) ∙ f) w);
      starts = λ i h. let s = k.starts i (tb i h) in let g = z.low_todo i (tb i h) in rw (z.bs i h, z.bw i h) (omega (arith, s.0, z.ns), omega (arith, g, z.nw));
      rising = λ i j h l. let n : i < y.nb = omega arith in rw (z.bs i n, z.bs j l, z.bw i n, z.bw j l) (k.rising i j h (tb j l));
      first = λ h. rw (z.bs 0 h, z.bw 0 h) (k.first (tb 0 h));
      none = λ h. by_lt 0 x.nb
          (λ m. let g = z.high 0 (omega arith) m in let s = k.first m in absurd (omega (arith, g, s.0)))
          (λ m. let n = k.none (omega arith) in absurd (omega (arith, n.1, z.last)));
    }

pub is_seen : (m : ℕ) → (m ≡ 0) ⊎ ((m ≡ 1) ⊎ ((p : ℕ) × (m ≡ suc (suc p))))
is_seen zero = inl refl
is_seen (suc zero) = inr (inl refl)
is_seen (suc (suc p)) = inr (inr (p, refl))

-- what determines a done vertex is done
done_back : (D : ℕ → ℕ → Type 0) (x : Stacks) (a b n : ℕ) → Inv D x → Walk D a b n → x.mark b ≡ 1 → x.mark a ≡ 1
done_back D x a b zero k w h = ap x.mark w ∙ h
done_back D x a b (suc n) k w h = done_back D x a w.0 n k w.1 (k.closed b w.0 h w.2)

-- how a closing changes a mark
pub record Fate (x y : Stacks) (t v : ℕ) : Type 0 where
  pub done : x.mark v ≡ 1 → y.mark v ≡ 1
  pub new : x.mark v ≡ 0 → y.mark v ≡ 0
  pub low : (p : ℕ) → x.mark v ≡ suc (suc p) → p < x.bs t → y.mark v ≡ suc (suc p)
  pub high : (p : ℕ) → x.mark v ≡ suc (suc p) → x.bs t ≤ p → y.mark v ≡ 1

pub fate : (D : ℕ → ℕ → Type 0) (x y : Stacks) (t v : ℕ) → Inv D x → Closes x y t → Fate x y t v
fate D x y t v k z =
    let same : ((p : ℕ) → x.mark v ≡ suc (suc p) → x.bs t ≤ p → ⊥) → y.mark v ≡ x.mark v = λ f. z.kept v (λ p h l e. f p (sym (ap x.mark e) ∙ k.placed p l) h) in
    record {
      done = λ h. same (λ p e l. let q : 1 ≡ suc (suc p) = sym h ∙ e in omega arith) ∙ h;
      new = λ h. same (λ p e l. let q : 0 ≡ suc (suc p) = sym h ∙ e in omega arith) ∙ h;
      low = λ p h l. same (λ r e m. let q : suc (suc p) ≡ suc (suc r) = sym h ∙ e in omega arith) ∙ h;
      high = λ p h l. let o = k.opened v p h in sym (ap y.mark o.1) ∙ z.gone p l o.0;
    }

-- where a mark came from
pub still_open : (D : ℕ → ℕ → Type 0) (x y : Stacks) (t v p : ℕ) → Inv D x → Closes x y t → y.mark v ≡ suc (suc p) → (x.mark v ≡ suc (suc p)) × (p < x.bs t)
still_open D x y t v p k z h =
    let f : Fate x y t v = fate D x y t v k z in
    elim (is_seen (x.mark v)) as (λ _. (x.mark v ≡ suc (suc p)) × (p < x.bs t)) [
      | inl m ↦ (let q : suc (suc p) ≡ 0 = sym h ∙ f.new m in absurd (omega arith))
      | inr c ↦ elim c as (λ _. (x.mark v ≡ suc (suc p)) × (p < x.bs t)) [
        | inl m ↦ (let q : suc (suc p) ≡ 1 = sym h ∙ f.done m in absurd (omega arith))
        | inr m ↦ by_lt m.0 (x.bs t)
            (λ l. let q : suc (suc p) ≡ suc (suc m.0) = sym h ∙ f.low m.0 m.1 l in let e : m.0 ≡ p = omega arith in (m.1 ∙ ap (λ c. suc (suc c)) e, omega arith))
            (λ l. let q : suc (suc p) ≡ 1 = sym h ∙ f.high m.0 m.1 l in absurd (omega arith))
      ]
    ]

pub now_done : (D : ℕ → ℕ → Type 0) (x y : Stacks) (t v : ℕ) → Inv D x → Closes x y t → y.mark v ≡ 1 → (x.mark v ≡ 1) ⊎ ((p : ℕ) × (x.mark v ≡ suc (suc p)) × (x.bs t ≤ p))
now_done D x y t v k z h =
    let f : Fate x y t v = fate D x y t v k z in
    elim (is_seen (x.mark v)) as (λ _. (x.mark v ≡ 1) ⊎ ((p : ℕ) × (x.mark v ≡ suc (suc p)) × (x.bs t ≤ p))) [
      | inl m ↦ (let q : 1 ≡ 0 = sym h ∙ f.new m in absurd (omega arith))
      | inr c ↦ elim c as (λ _. (x.mark v ≡ 1) ⊎ ((p : ℕ) × (x.mark v ≡ suc (suc p)) × (x.bs t ≤ p))) [
        | inl m ↦ inl m
        | inr m ↦ by_lt m.0 (x.bs t)
            (λ l. absurd (let q : 1 ≡ suc (suc m.0) = sym h ∙ f.low m.0 m.1 l in omega arith))
            (λ l. inr (m.0, m.1, l))
      ]
    ]

-- what determines a vertex of the last segment, which has nothing left to be looked at
pub before_top : (D : ℕ → ℕ → Type 0) (x y : Stacks) (t v p c : ℕ) → Inv D x → Closes x y t → x.mark v ≡ suc (suc p) → x.bs t ≤ p → D c v → (x.mark c ≡ 1) ⊎ ((q : ℕ) × (x.mark c ≡ suc (suc q)) × (x.bs t ≤ q) × (c ≡ v → x.looped v ≡ true))
before_top D x y t v p c k z h l d =
    let n : t < x.nb = omega (arith, z.top) in
    elim (k.edges v p c h d) as (λ _. (x.mark c ≡ 1) ⊎ ((q : ℕ) × (x.mark c ≡ suc (suc q)) × (x.bs t ≤ q) × (c ≡ v → x.looped v ≡ true))) [
      | inl m ↦ inl m
      | inr o ↦ elim o as (λ _. (x.mark c ≡ 1) ⊎ ((q : ℕ) × (x.mark c ≡ suc (suc q)) × (x.bs t ≤ q) × (c ≡ v → x.looped v ≡ true))) [
        | inl m ↦ inr (m.place, m.is, m.below t n l, m.self)
        | inr m ↦ (let g = m.below t n l in let w = m.within in absurd (omega (arith, g, w, z.empty)))
      ]
    ]

-- two places of the last segment reach each other
in_top : (D : ℕ → ℕ → Type 0) (x y : Stacks) (t p q : ℕ) → Inv D x → Closes x y t → x.bs t ≤ p → x.bs t ≤ q → p < x.ns → q < x.ns → Reach D (x.open_at p) (x.open_at q)
in_top D x y t p q k z h g l m =
    let n : t < x.nb = omega (arith, z.top) in
    by_lt p q
    (λ c. k.segment p q (omega arith) m (λ i j _. by_lt i t (λ a. let r = k.rising i t a n in omega (arith, h, r.0)) (λ a. let e : i ≡ t = omega (arith, z.top) in rw e h)))
    (λ c. k.back q p c l)

-- a vertex that shares its segment is on a loop
shared : (D : ℕ → ℕ → Type 0) (x y : Stacks) (t p : ℕ) → Inv D x → Closes x y t → x.bs t ≤ p → p < x.ns → x.bs t + 1 < x.ns → OnLoop D (x.open_at p)
shared D x y t p k z h l m =
    let with : (q : ℕ) → x.bs t ≤ q → q < x.ns → (p ≡ q → ⊥) → OnLoop D (x.open_at p) = λ q c d f.
    loop_between D (x.open_at p) (x.open_at q) (in_top D x y t p q k z h c l d) (in_top D x y t q p k z c h d l)
    (λ e. let r : suc (suc p) ≡ suc (suc q) = sym (k.placed p l) ∙ ap x.mark e ∙ k.placed q d in f (omega arith)) in
    by_eq p (x.bs t)
    (λ e. with (x.bs t + 1) (omega arith) m (λ f. omega arith))
    (λ e. with (x.bs t) (omega arith) (omega arith) e)

-- a vertex alone in its segment, and not seen to determine itself, is on no loop
alone : (D : ℕ → ℕ → Type 0) (x y : Stacks) (t v p : ℕ) → Inv D x → Closes x y t → x.mark v ≡ suc (suc p) → x.bs t ≤ p → x.ns ≤ x.bs t + 1 → x.looped v ≡ false → OnLoop D v → ⊥
alone D x y t v p k z h l m f w =
    let o = k.opened v p h in
    let c : ℕ = w.1.0 in
    elim (before_top D x y t v p c k z h l w.1.2) as (λ _. ⊥) [
      | inl e ↦ (let q : suc (suc p) ≡ 1 = sym h ∙ done_back D x v c w.0 k w.1.1 e in omega arith)
      | inr r ↦
          let s = k.opened c r.0 r.1 in
          let same : r.0 ≡ p = omega (arith, s.0, o.0, r.2) in
          let e : c ≡ v = sym s.1 ∙ ap x.open_at same ∙ o.1 in
          let q : false ≡ true = sym f ∙ r.3 e in
          false≢true q
    ]

pub close_keeps : (D : ℕ → ℕ → Type 0) (x y : Stacks) (t : ℕ) → Inv D x → Closes x y t → Inv D y
close_keeps D x y t k z =
    let n : t < x.nb = omega (arith, z.top) in
    let tb : (i : ℕ) → i < y.nb → i < t = λ i h. omega (arith, z.nb) in
    let ux : (i : ℕ) → i < t → i < x.nb = λ i h. omega arith in
    let sz = k.starts t n in
    let ft : (v : ℕ) → Fate x y t v = λ v. fate D x y t v k z in
    record {
      opened = λ v p h. let g = still_open D x y t v p k z h in let o = k.opened v p g.0 in (omega (arith, z.ns, g.1), z.opens p g.1 ∙ o.1);
      placed = λ p h. let l : p < x.bs t = omega (arith, z.ns) in let m : p < x.ns = omega (arith, sz.0) in rw (z.opens p l) ((ft (x.open_at p)).low p (k.placed p m) l);
      closed = λ v c h d. elim (now_done D x y t v k z h) as (λ _. y.mark c ≡ 1) [
        | inl m ↦ (ft c).done (k.closed v c m d)
        | inr m ↦ elim (before_top D x y t v m.0 c k z m.1 m.2 d) as (λ _. y.mark c ≡ 1) [
          | inl e ↦ (ft c).done e
          | inr e ↦ (ft c).high e.0 e.1 e.2
        ]
      ];
      edges = λ v p c h d. let g = still_open D x y t v p k z h in
          elim (k.edges v p c g.0 d) as (λ _. (y.mark c ≡ 1) ⊎ (OpenAt y v p c ⊎ TodoAt y p c)) [
            | inl m ↦ inl ((ft c).done m)
            | inr o ↦ elim o as (λ _. (y.mark c ≡ 1) ⊎ (OpenAt y v p c ⊎ TodoAt y p c)) [
              | inl m ↦ by_lt m.place (x.bs t)
                  (λ l. inr (inl (record { place = m.place; is = (ft c).low m.place m.is l; below = λ i j b. rw (z.bs i (tb i j)) (m.below i (ux i (tb i j)) (rw (z.bs i (tb i j)) at b)); self = λ r. z.up v (m.self r) })))
                  (λ l. inl ((ft c).high m.place m.is l))
              | inr m ↦ inr (inr (record { place = m.place; within = (let w = m.within in omega (arith, z.nw, w)); is = z.todos m.place m.within ∙ m.is; below = λ i j b. rw (z.bw i (tb i j)) (m.below i (ux i (tb i j)) (rw (z.bs i (tb i j)) at b)) }))
            ]
          ];
      todo = λ c l. let m : c < x.nw = omega (arith, z.nw) in let o = k.todo c m in
          let low : o.place < x.bs t = by_lt o.place (x.bs t) (λ q. q) (λ q. let g = o.down t n q in absurd (omega (arith, g, z.empty))) in
          record {
            owner = o.owner;
            place = o.place;
            is = (ft o.owner).low o.place o.is low;
            step = rw (z.todos c m) o.step;
            up = λ i h g. rw (z.bs i (tb i h)) (o.up i (ux i (tb i h)) (rw (z.bw i (tb i h)) at g));
            down = λ i h g. rw (z.bw i (tb i h)) (o.down i (ux i (tb i h)) (rw (z.bs i (tb i h)) at g));
          };
      back = λ p q h l. let m : q < x.bs t = omega (arith, z.ns) in let r : p < x.bs t = omega arith in rw (z.opens p r, z.opens q m) (k.back p q h (omega (arith, sz.0)));
      segment = λ p q h l b. let m : q < x.bs t = omega (arith, z.ns) in let r : p < x.bs t = omega arith in
          rw (z.opens p r, z.opens q m) (k.segment p q h (omega (arith, sz.0)) (λ i j g. by_lt i t
          (λ c. rw (z.bs i c) at (b i (omega (arith, z.nb)) (rw (z.bs i c) g)))
          (λ c. let e : t ≡ i = omega (arith, z.top) in let f : x.bs t ≤ q = rw e g in absurd (omega arith))));
      real = λ v h. elim (z.down v h) as (λ _. OnLoop D v) [
        | inl m ↦ k.real v m
        | inr m ↦ subst (λ c. OnLoop D c) m.3 (shared D x y t m.0 k z m.1 m.2 m.4)
      ];
      free = λ v h f w.
          let not_x : x.looped v ≡ false = by_bool (x.looped v) (λ e. absurd (false≢true (sym f ∙ z.up v e))) (λ e. e) in
          elim (now_done D x y t v k z h) as (λ _. ⊥) [
            | inl m ↦ k.free v m not_x w
            | inr m ↦ by_lt (x.bs t + 1) x.ns
                (λ c. let o = k.opened v m.0 m.1 in false≢true (sym f ∙ ap y.looped (sym o.1) ∙ z.many c m.0 m.2 o.0))
                (λ c. alone D x y t v m.0 k z m.1 m.2 c not_x w)
          ];
      starts = λ i h. let r = k.starts i (ux i (tb i h)) in
          let g = k.rising i t (omega (arith, z.nb)) n in
          let low : x.bs i < x.bs t = g.0 in
          rw (z.bs i (tb i h), z.bw i (tb i h)) (omega (arith, low, z.ns), omega (arith, r.1, z.nw));
      rising = λ i j h l. let a = tb j l in let b : i < t = omega arith in rw (z.bs i b, z.bs j a, z.bw i b, z.bw j a) (k.rising i j h (ux j a));
      first = λ h. let a = tb 0 h in rw (z.bs 0 a, z.bw 0 a) (k.first (ux 0 a));
      none = λ h. let e : t ≡ 0 = omega (arith, z.nb) in let q = k.first (omega (arith, z.top)) in
          let a : x.bs t ≡ 0 = ap x.bs e ∙ q.0 in let b : x.bw t ≡ 0 = ap x.bw e ∙ q.1 in
          (omega (arith, z.ns, a), omega (arith, z.nw, b, z.empty));
    }
