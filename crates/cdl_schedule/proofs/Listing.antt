-- The instances among ordered vertices.
use Rattle.std.proofs.Common.{ℕ, zero, suc, ◌+◌, ◌-◌, ◌<◌, ◌≤◌, ◌≡◌, ◌&&◌, refl, sym, ap, ◌∙◌, subst, arith, Bool, true, inl, inr, List, [], ◌∷◌, ◌++◌, length, get_or}
use Rattle.cdl_source.proofs.Cases.{by_lt, by_bool}
use Rattle.std.specs.Prelude.{nat_le}
use Rattle.std.proofs.lemmas.Bool.{false≢true, leb-true, le-leb, and_parts}
use Rattle.std.proofs.lemmas.List.{length_push}
use Rattle.cdl_search.specs.Order.{IsOrder}
use Rattle.cdl_search.specs.Walks as walks
use Rattle.cdl_network.specs.Dependence.{Walk, Out, direct_of, outputs_of}
use Rattle.cdl_network.specs.Lists.{In}
use Rattle.cdl_network.proofs.Checking.{slice_in}
use Rattle.cdl_connect.proofs.Networks.{in_all}
use Rattle.cdl_connect.specs.declared.net.Net.{Net}
use Rattle.cdl_connect.specs.Faults.{IsChecked}
use Rattle.cdl_connect.specs.Nets.{network_of}
use Rattle.cdl_schedule.specs.Plans.{IsPlan}
use Rattle.cdl_schedule.specs.inner.Listed.{Listed, is_listed}
use Rattle.cdl_schedule.specs.inner.Rows.{Precedes, added, vertex_count}
use Rattle.cdl_schedule.proofs.Building.{old_at, new_at}
use Rattle.cdl_schedule.proofs.Loops.{back, some_at}

pub listed_start : (E : ℕ → Bool) (m : ℕ) (order list : List ℕ) → list ≡ [] → Listed E m order 0 list
listed_start E m order list e =
    let n : length list ≡ 0 = ap length e in
    record {
      inside = λ j h. absurd (omega (arith, n));
      each = λ p i h a b. absurd (omega arith);
      once = λ i j a b c. absurd (omega (arith, n));
      behind = λ j p r q a b c d e f. absurd (omega (arith, n));
    }

listed_pass : (E : ℕ → Bool) (m t : ℕ) (order list : List ℕ) → Listed E m order t list → ((i : ℕ) → get_or order t 0 ≡ m + i → E i ≡ true → ⊥) → Listed E m order (t + 1) list
listed_pass E m t order list l f = record {
  inside = λ j h. let r = l.inside j h in let a = r.1 in (r.0, omega (arith, a), r.2, r.3);
  each = λ p i h a b. by_lt p t (λ c. l.each p i c a b) (λ c. let q : p ≡ t = omega arith in absurd (f i (subst (λ z. get_or order z 0 ≡ m + i) q a) b));
  once = l.once;
  behind = l.behind;
}

-- a vertex stands at one place
one_place : (D : ℕ → ℕ → Type 0) (top : ℕ) (order : List ℕ) → IsOrder D top order → (p q : ℕ) → p < length order → q < length order → get_or order p 0 ≡ get_or order q 0 → p ≡ q
one_place D top order o p q h g e = by_lt p q (λ a. absurd (o.once p q a g e)) (λ a. by_lt q p (λ b. absurd (o.once q p b h (sym e))) (λ b. omega arith))

listed_add : (D : ℕ → ℕ → Type 0) (top : ℕ) (E : ℕ → Bool) (m t i : ℕ) (order list : List ℕ) → IsOrder D top order → Listed E m order t list → t < length order → get_or order t 0 ≡ m + i → E i ≡ true → Listed E m order (t + 1) (list ++ i ∷ [])
listed_add D top E m t i order list o l h e b =
    let n = length_push list i in
    let new : (j : ℕ) → j ≡ length list → get_or (list ++ i ∷ []) j 0 ≡ i = λ j q. new_at list i j q in
    let at : (j : ℕ) → length list ≤ j → j < length (list ++ i ∷ []) → get_or (list ++ i ∷ []) j 0 ≡ i = λ j a c. new j (omega (arith, n)) in
    record {
      inside = λ j g. by_lt j (length list)
          (λ a.
          let r = l.inside j a in
          let s = old_at list i j a in
          let c = r.1 in
          (r.0, omega (arith, c), r.2 ∙ ap (λ z. m + z) (sym s), ap E s ∙ r.3))
          (λ a. let s = at j a g in (t, omega arith, e ∙ ap (λ z. m + z) (sym s), ap E s ∙ b));
      each = λ p k g a c. by_lt p t
          (λ d. let r = l.each p k d a c in let q = r.1 in (r.0, omega (arith, q, n), old_at list i r.0 q ∙ r.2))
          (λ d.
          let q : p ≡ t = omega arith in
          let s : m + i ≡ m + k = sym e ∙ ap (λ z. get_or order z 0) (sym q) ∙ a in
          let k_is : i ≡ k = omega (arith, s) in
          (length list, omega (arith, n), new (length list) refl ∙ k_is));
      once = λ j k a c s. by_lt k (length list)
          (λ d. l.once j k a d (sym (old_at list i j (omega arith)) ∙ s ∙ old_at list i k d))
          (λ d.
          let w : j < length list = omega (arith, n) in
          let r = l.inside j w in
          let z : get_or list j 0 ≡ i = sym (old_at list i j w) ∙ s ∙ at k d c in
          let g : r.0 < length order = let y = r.1 in omega (arith, y, h) in
          let q = one_place D top order o r.0 t g h (r.2 ∙ ap (λ y. m + y) z ∙ sym e) in
          let y = r.1 in
          omega (arith, y, q));
      behind = λ j p r q a c d f g k. by_lt j (length list)
          (λ w. let y = l.behind j p r q w c (d ∙ ap (λ z. m + z) (old_at list i j w)) f g k in let u = y.1 in (y.0, u, old_at list i y.0 (omega (arith, u, w)) ∙ y.2))
          (λ w.
          let same = one_place D top order o p t c h (d ∙ ap (λ z. m + z) (at j w a) ∙ sym e) in
          let y = l.each r q (omega (arith, same, f)) g k in
          let u = y.1 in
          (y.0, omega (arith, u, w), old_at list i y.0 u ∙ y.2));
    }

-- one vertex more
pub listed_next : (n : Net) (t v : ℕ) (order list list2 : List ℕ) → IsOrder (Precedes n) (vertex_count n) order → Listed (network_of n).elementary (length n.elements) order t list → t < length order → get_or order t 0 ≡ v → list2 ≡ added (is_listed n v) list (v - length n.elements) → Listed (network_of n).elementary (length n.elements) order (t + 1) list2
listed_next n t v order list list2 o l h e f =
    let m : ℕ = length n.elements in
    let E : ℕ → Bool = (network_of n).elementary in
    by_bool (is_listed n v)
    (λ b.
    let p = and_parts (nat_le m v) (E (v - m)) b in
    let a = leb-true m v p.0 in
    let z : list2 ≡ list ++ (v - m) ∷ [] = f ∙ ap (λ c. added c list (v - m)) b in
    let s : get_or order t 0 ≡ m + (v - m) = omega (arith, e, a) in
    subst (λ y. Listed E m order (t + 1) y) (sym z) (listed_add (Precedes n) (vertex_count n) E m t (v - m) order list o l h s p.1))
    (λ b.
    let z : list2 ≡ list = f ∙ ap (λ c. added c list (v - m)) b in
    subst (λ y. Listed E m order (t + 1) y) (sym z) (listed_pass E m t order list l (λ i s g.
    let a : m ≤ v = omega (arith, e, s) in
    let k : v - m ≡ i = omega (arith, e, s) in
    let y : is_listed n v ≡ true = ap (λ c. c && E (v - m)) (le-leb m v a) ∙ ap E k ∙ g in
    false≢true (sym b ∙ y))))

-- what leads to a vertex stands before it
walked : (D : ℕ → ℕ → Type 0) (top : ℕ) (order : List ℕ) → IsOrder D top order → (y x k : ℕ) → walks.Walk D y x k → (j : ℕ) → j < length order → get_or order j 0 ≡ x → (i : ℕ) × (i ≤ j) × (get_or order i 0 ≡ y)
walked D top order o y x zero w j h e = (j, omega arith, e ∙ sym w)
walked D top order o y x (suc k) w j h e =
    let b = o.behind j w.0 h (subst (λ z. D w.0 z) (sym e) w.2) in
    let c = b.1 in
    let r = walked D top order o y w.0 k w.1 b.0 (omega (arith, c, h)) b.2 in
    let d = r.1 in
    (r.0, omega (arith, c, d), r.2)

behind_of : (n : Net) (order list : List ℕ) (j x q y k : ℕ) → IsChecked n → IsOrder (Precedes n) (vertex_count n) order → Listed (network_of n).elementary (length n.elements) order (length order) list → j < length list → In x (direct_of (network_of n) (get_or list j 0)) → (network_of n).elementary q ≡ true → In y (outputs_of (network_of n) q) → Walk (network_of n) y x k → (i : ℕ) × (i < j) × (get_or list i 0 ≡ q)
behind_of n order list j x q y k f o l h d b c w =
    let m : ℕ = length n.elements in
    let p = l.inside j h in
    let a = p.1 in
    let at = o.behind p.0 x a (subst (λ z. Precedes n x z) (sym p.2) (inr (get_or list j 0, refl, p.3, d))) in
    let a1 = at.1 in
    let r = back n y x k f w in
    let e = walked (Precedes n) (vertex_count n) order o y x r.0 r.1 at.0 (omega (arith, a, a1)) at.2 in
    let a2 = e.1 in
    let s = slice_in y (outputs_of (network_of n) q) c in
    let out : Precedes n (m + q) y = inl (Out q s.0, (in_all (length n.instances) q (some_at n q b), b, s.1), refl) in
    let g = o.behind e.0 (m + q) (omega (arith, a, a1, a2)) (subst (λ z. Precedes n (m + q) z) (sym e.2) out) in
    let a3 = g.1 in
    l.behind j p.0 g.0 q h a p.2 (omega (arith, a1, a2, a3)) g.2 b

pub plan_of : (n : Net) (order list : List ℕ) → IsChecked n → IsOrder (Precedes n) (vertex_count n) order → Listed (network_of n).elementary (length n.elements) order (length order) list → IsPlan n list
plan_of n order list f o l = record {
  each = λ i h b. let p = o.each (length n.elements + i) (omega arith) in l.each p.0 i p.1 p.2 b;
  only = λ j h. let r = l.inside j h in (some_at n (get_or list j 0) r.3, r.3);
  once = l.once;
  behind = λ j x q y k h d b c w. behind_of n order list j x q y k f o l h d b c w;
}

pub order_read : (n : Net) (order order2 : List ℕ) → IsOrder (Precedes n) (vertex_count n) order → order2 ≡ order → IsOrder (Precedes n) (vertex_count n) order2
order_read n order order2 o e = subst (λ l. IsOrder (Precedes n) (vertex_count n) l) (sym e) o
