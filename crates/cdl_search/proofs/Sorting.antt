-- The order of the done vertices, over the steps of the search.
use Rattle.std.proofs.Common.{ℕ, suc, ◌+◌, ◌-◌, ◌<◌, ◌≤◌, ◌≡◌, sym, ap, ◌∙◌, subst, arith, false, inl, inr}
use Rattle.std.proofs.lemmas.Bool.{false≢true}
use Rattle.cdl_search.specs.Search.{Stacks, Inv, Closes, Sorted}
use Rattle.cdl_search.proofs.Walking.{by_lt, by_bool}
use Rattle.cdl_search.proofs.Steps.{now_done, before_top, fate}

-- a step that makes nothing done, and changes the flag of no done vertex
pub sorted_same : (D : ℕ → ℕ → Type 0) (x y : Stacks) (nd : ℕ) (at : ℕ → ℕ) → Sorted D x nd at → ((v : ℕ) → y.mark v ≡ 1 → x.mark v ≡ 1) → ((v : ℕ) → x.mark v ≡ 1 → y.mark v ≡ 1) → ((v : ℕ) → x.mark v ≡ 1 → y.looped v ≡ x.looped v) → Sorted D y nd at
sorted_same D x y nd at s f g l = record {
  listed = λ v h. s.listed v (f v h);
  done = λ j h. g (at j) (s.done j h);
  once = s.once;
  sorted = λ j u h n d. s.sorted j u h (sym (l (at j) (s.done j h)) ∙ n) d;
}

pub sorted_close : (D : ℕ → ℕ → Type 0) (x y : Stacks) (t nd nd' : ℕ) (at at' : ℕ → ℕ) → Inv D x → Closes x y t → Sorted D x nd at → nd' + x.bs t ≡ nd + x.ns → ((j : ℕ) → j < nd → at' j ≡ at j) → ((p : ℕ) → x.bs t ≤ p → p < x.ns → at' (nd + (p - x.bs t)) ≡ x.open_at p) → Sorted D y nd' at'
sorted_close D x y t nd nd' at at' k z s e old new =
    let n : t < x.nb = omega (arith, z.top) in
    let sz = (k.starts t n).0 in
    let place : (j : ℕ) → nd ≤ j → j < nd' → (p : ℕ) × (x.bs t ≤ p) × (p < x.ns) × (at' j ≡ x.open_at p) × (nd + (p - x.bs t) ≡ j) = λ j h l.
    let p : ℕ = x.bs t + (j - nd) in
    let a : x.bs t ≤ p = omega arith in
    let b : p < x.ns = omega (arith, e, sz) in
    let c : nd + (p - x.bs t) ≡ j = omega arith in
    (p, a, b, ap at' (sym c) ∙ new p a b, c) in
    record {
      listed = λ v h. elim (now_done D x y t v k z h) as (λ _. (j : ℕ) × (j < nd') × (at' j ≡ v)) [
        | inl m ↦ (let o = s.listed v m in (o.0, omega (arith, o.1, e, sz), old o.0 o.1 ∙ o.2))
        | inr m ↦ (let o = k.opened v m.0 m.1 in (nd + (m.0 - x.bs t), omega (arith, e, sz, o.0, m.2), new m.0 m.2 o.0 ∙ o.1))
      ];
      done = λ j h. by_lt j nd
          (λ l. rw (old j l) ((fate D x y t (at j) k z).done (s.done j l)))
          (λ l. let p = place j l h in rw p.3 (z.gone p.0 p.1 p.2));
      once = λ i j h l r. by_lt j nd
          (λ m. let b : i < nd = omega arith in s.once i j h m (sym (old i b) ∙ r ∙ old j m))
          (λ m. let p = place j m l in by_lt i nd
          (λ b. let c : 1 ≡ suc (suc p.0) = sym (s.done i b) ∙ ap x.mark (sym (old i b) ∙ r ∙ p.3) ∙ k.placed p.0 p.2 in omega arith)
          (λ b. let q = place i b (omega arith) in
          let c : suc (suc q.0) ≡ suc (suc p.0) = sym (k.placed q.0 q.2) ∙ ap x.mark (sym q.3 ∙ r ∙ p.3) ∙ k.placed p.0 p.2 in
          let d : q.0 ≡ p.0 = omega arith in
          omega (arith, p.4, q.4, p.1, q.1, d, h)));
      sorted = λ j u h f d. by_lt j nd
          (λ l. let o : at' j ≡ at j = old j l in
          let g : x.looped (at j) ≡ false = by_bool (x.looped (at j)) (λ c. absurd (false≢true (sym f ∙ ap y.looped o ∙ z.up (at j) c))) (λ c. c) in
          let r = s.sorted j u l g (subst (λ c. D u c) o d) in
          (r.0, r.1, old r.0 (omega (arith, r.1)) ∙ r.2))
          (λ l. let p = place j l h in
          let v : ℕ = x.open_at p.0 in
          let no : y.looped v ≡ false = ap y.looped (sym p.3) ∙ f in
          let few : x.ns ≤ x.bs t + 1 = by_lt (x.bs t + 1) x.ns (λ c. absurd (false≢true (sym no ∙ z.many c p.0 p.1 p.2))) (λ c. c) in
          elim (before_top D x y t v p.0 u k z (k.placed p.0 p.2) p.1 (subst (λ c. D u c) p.3 d)) as (λ _. (i : ℕ) × (i < j) × (at' i ≡ u)) [
            | inl m ↦ (let o = s.listed u m in (o.0, omega (arith, o.1), old o.0 o.1 ∙ o.2))
            | inr m ↦
                let o = k.opened u m.0 m.1 in
                let a : m.0 ≡ p.0 = omega (arith, o.0, m.2, p.1, p.2) in
                let b : u ≡ v = sym o.1 ∙ ap x.open_at a in
                absurd (false≢true (sym no ∙ z.up v (m.3 b)))
          ]);
    }
