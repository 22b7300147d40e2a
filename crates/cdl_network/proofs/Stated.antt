-- The recursion over ticks says what is said tick by tick.
use Rattle.std.proofs.Common.{ℕ, zero, suc, ◌<◌, ◌≤◌, ◌≡◌, ◌⊎◌, refl, sym, ap, ◌∙◌, subst, arith, inl, inr, List, [], ◌∷◌, length, take, Option, Some, None, slice_get}
use Rattle.cdl_network.specs.Network.{Network}
use Rattle.cdl_network.specs.Ticks.{Goes, Meets, Seen, Solves, Stated, Tick, Valuation, after, first_fault, seen}

-- the same behind a past
record StatedFrom {I E : Type 0} (n : Network I E) (past : List (Seen E)) (ts : List Tick) (vs : List (Valuation E)) : Type 0 where
  short : length vs ≤ length ts
  meets : (k : ℕ) (t : Tick) (v : Valuation E) → slice_get ts k ≡ Some t → slice_get vs k ≡ Some v → Meets n (after past (take k ts) (take k vs)) t v
  calm : (k : ℕ) (t : Tick) (v : Valuation E) → suc k < length vs → slice_get ts k ≡ Some t → slice_get vs k ≡ Some v → first_fault n (after past (take k ts) (take k vs)) t v ≡ None
  ends : (length vs ≡ length ts) ⊎ ((k : ℕ) × (t : Tick) × (v : Valuation E) × (suc k ≡ length vs) × (slice_get ts k ≡ Some t) × (slice_get vs k ≡ Some v) × (i : I) × (first_fault n (after past (take k ts) (take k vs)) t v ≡ Some i))

-- after a tick without a fault
on_calm : {I E : Type 0} (n : Network I E) (past : List (Seen E)) (t : Tick) (ts : List Tick) (v : Valuation E) (vs : List (Valuation E)) → Meets n past t v → first_fault n past t v ≡ None → StatedFrom n (seen t v ∷ past) ts vs → StatedFrom n past (t ∷ ts) (v ∷ vs)
on_calm {I} {E} n past t ts v vs m z s = record {
  short = let a = s.short in omega arith;
  meets = meets_at;
  calm = calm_at;
  ends = elim s.ends [
    | inl e ↦ inl (ap suc e)
    | inr p ↦ inr (suc p.0, p.1, p.2, ap suc p.3, p.4, p.5, p.6, p.7)
  ];
}
  where
    meets_at : (k : ℕ) (u : Tick) (w : Valuation E) → slice_get (t ∷ ts) k ≡ Some u → slice_get (v ∷ vs) k ≡ Some w → Meets n (after past (take k (t ∷ ts)) (take k (v ∷ vs))) u w
    meets_at zero u w e f =
        let a : t ≡ u = cc in
        let b : v ≡ w = cc in
        subst (λ y. Meets n past y w) a (subst (λ y. Meets n past t y) b m)
    meets_at (suc k) u w e f = s.meets k u w e f

    calm_at : (k : ℕ) (u : Tick) (w : Valuation E) → suc k < suc (length vs) → slice_get (t ∷ ts) k ≡ Some u → slice_get (v ∷ vs) k ≡ Some w → first_fault n (after past (take k (t ∷ ts)) (take k (v ∷ vs))) u w ≡ None
    calm_at zero u w l e f =
        let a : t ≡ u = cc in
        let b : v ≡ w = cc in
        ap (λ y. first_fault n past y w) (sym a) ∙ ap (λ y. first_fault n past t y) (sym b) ∙ z
    calm_at (suc k) u w l e f = s.calm k u w (omega arith) e f

-- at a tick with a fault
on_fault : {I E : Type 0} (n : Network I E) (past : List (Seen E)) (t : Tick) (ts : List Tick) (v : Valuation E) (i : I) → Meets n past t v → first_fault n past t v ≡ Some i → StatedFrom n past (t ∷ ts) (v ∷ [])
on_fault {I} {E} n past t ts v i m z = record {
  short = omega arith;
  meets = meets_at;
  calm = λ k u w l e f. absurd (omega arith);
  ends = inr (0, t, v, refl, refl, refl, i, z);
}
  where
    meets_at : (k : ℕ) (u : Tick) (w : Valuation E) → slice_get (t ∷ ts) k ≡ Some u → slice_get (v ∷ []) k ≡ Some w → Meets n (after past (take k (t ∷ ts)) (take k (v ∷ []))) u w
    meets_at zero u w e f =
        let a : t ≡ u = cc in
        let b : v ≡ w = cc in
        subst (λ y. Meets n past y w) a (subst (λ y. Meets n past t y) b m)
    meets_at (suc k) u w e f = absurd (cc)

by_fault : {I E : Type 0} (n : Network I E) (past : List (Seen E)) (t : Tick) (ts : List Tick) (v : Valuation E) (vs : List (Valuation E)) (o : Option I) → Meets n past t v → first_fault n past t v ≡ o → Goes o vs (Solves n (seen t v ∷ past) ts vs) → (Solves n (seen t v ∷ past) ts vs → StatedFrom n (seen t v ∷ past) ts vs) → StatedFrom n past (t ∷ ts) (v ∷ vs)
by_fault n past t ts v vs None m z g f = on_calm n past t ts v vs m z (f g)
by_fault n past t ts v vs (Some i) m z g f = subst (λ us. StatedFrom n past (t ∷ ts) (v ∷ us)) (sym g) (on_fault n past t ts v i m z)

stated_from : {I E : Type 0} (n : Network I E) (ts : List Tick) (past : List (Seen E)) (vs : List (Valuation E)) → Solves n past ts vs → StatedFrom n past ts vs
stated_from n [] past [] h = record { short = omega arith; meets = λ k t v e f. absurd (cc); calm = λ k t v l e f. absurd (omega arith); ends = inl refl }
stated_from n [] past (v ∷ vs) h = absurd h
stated_from n (t ∷ ts) past [] h = absurd h
stated_from n (t ∷ ts) past (v ∷ vs) h = by_fault n past t ts v vs (first_fault n past t v) h.0 refl h.1 (λ g. stated_from n ts (seen t v ∷ past) vs g)

pub stated : {I E : Type 0} (n : Network I E) (ts : List Tick) (vs : List (Valuation E)) → Solves n [] ts vs → Stated n ts vs
stated n ts vs h = let s = stated_from n ts [] vs h in record { short = s.short; meets = s.meets; calm = s.calm; ends = s.ends }

-- the other way round
later_from : {I E : Type 0} (n : Network I E) (past : List (Seen E)) (t : Tick) (ts : List Tick) (v : Valuation E) (vs : List (Valuation E)) → first_fault n past t v ≡ None → StatedFrom n past (t ∷ ts) (v ∷ vs) → StatedFrom n (seen t v ∷ past) ts vs
later_from {I} {E} n past t ts v vs z s = record {
  short = let a = s.short in omega arith;
  meets = λ k u w e f. s.meets (suc k) u w e f;
  calm = λ k u w l e f. s.calm (suc k) u w (omega arith) e f;
  ends = ends_at s.ends;
}
  where
    ends_at : (suc (length vs) ≡ suc (length ts)) ⊎ ((k : ℕ) × (u : Tick) × (w : Valuation E) × (suc k ≡ suc (length vs)) × (slice_get (t ∷ ts) k ≡ Some u) × (slice_get (v ∷ vs) k ≡ Some w) × (i : I) × (first_fault n (after past (take k (t ∷ ts)) (take k (v ∷ vs))) u w ≡ Some i)) → (length vs ≡ length ts) ⊎ ((k : ℕ) × (u : Tick) × (w : Valuation E) × (suc k ≡ length vs) × (slice_get ts k ≡ Some u) × (slice_get vs k ≡ Some w) × (i : I) × (first_fault n (after (seen t v ∷ past) (take k ts) (take k vs)) u w ≡ Some i))
    ends_at (inl e) = inl (omega arith)
    ends_at (inr (zero, u, w, a, b, c, i, d)) =
        let x : t ≡ u = cc in
        let y : v ≡ w = cc in
        let g : None ≡ Some i = sym z ∙ ap (λ q. first_fault n past q v) x ∙ ap (λ q. first_fault n past u q) y ∙ d in
        absurd (cc)
    ends_at (inr (suc k, u, w, a, b, c, i, d)) = inr (k, u, w, omega arith, b, c, i, d)

back_at : {I E : Type 0} (n : Network I E) (past : List (Seen E)) (t : Tick) (ts : List Tick) (v : Valuation E) (vs : List (Valuation E)) (o : Option I) → first_fault n past t v ≡ o → StatedFrom n past (t ∷ ts) (v ∷ vs) → (first_fault n past t v ≡ None → Solves n (seen t v ∷ past) ts vs) → Goes o vs (Solves n (seen t v ∷ past) ts vs)
back_at n past t ts v vs None z s f = f z
back_at n past t ts v [] (Some i) z s f = refl
back_at n past t ts v (u ∷ us) (Some i) z s f =
    let c = s.calm 0 t v (omega arith) refl refl in
    let g : Some i ≡ None = sym z ∙ c in
    absurd (cc)

solves_from : {I E : Type 0} (n : Network I E) (ts : List Tick) (past : List (Seen E)) (vs : List (Valuation E)) → StatedFrom n past ts vs → Solves n past ts vs
solves_from n [] past [] s = tt
solves_from n [] past (v ∷ vs) s = let a = s.short in absurd (omega arith)
solves_from n (t ∷ ts) past [] s = elim s.ends as (λ _. ⊥) [ inl e ↦ omega arith | inr p ↦ omega (arith, p.3) ]
solves_from n (t ∷ ts) past (v ∷ vs) s = (
  s.meets 0 t v refl refl,
  back_at n past t ts v vs (first_fault n past t v) refl s (λ z. solves_from n ts (seen t v ∷ past) vs (later_from n past t ts v vs z s)),
)

pub stated_back : {I E : Type 0} (n : Network I E) (ts : List Tick) (vs : List (Valuation E)) → Stated n ts vs → Solves n [] ts vs
stated_back n ts vs s = solves_from n ts [] vs (record { short = s.short; meets = s.meets; calm = s.calm; ends = s.ends })
