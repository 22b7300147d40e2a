-- In a network that breaks no rule each element has one origin.
use Rattle.std.proofs.Common.{ℕ, zero, suc, ◌≡◌, ◌⊎◌, ◌&&◌, ◌||◌, refl, sym, ap, ◌∙◌, subst, arith, Bool, true, false, cond, not, inl, inr, List, [], ◌∷◌, filter, length, Option, Some, None, slice_get}
use Rattle.std.proofs.lemmas.Bool.{false≢true, and_parts, not-true}
use Rattle.cdl_source.specs.declared.rules.TheConstants.{TWO_SOURCES_OR_SINKS}
use Rattle.cdl_source.proofs.Cases.{by_bool}
use Rattle.cdl_network.specs.Closed.{Closed, Shaped}
use Rattle.cdl_network.specs.Dependence.{From, HasOrigin, NoLoop, Origin, Out, Row, Walk, is_of, is_root_input, outputs_of, root_inputs}
use Rattle.cdl_network.specs.Lists.{Apart, In, Tells, count, first_of, found, has_some}
use Rattle.cdl_network.specs.Network.{Network, Wire}
use Rattle.cdl_network.specs.Planned.{AgreeAll, DirectOnly, Origins, Planned}
use Rattle.cdl_network.specs.Rules.{arrivals, element_fault, fault_by, first_element, first_wire, goes, is_inner, is_own, is_sink, is_some_same, is_source, is_wanted, sink_of, source_of, wire_fault}
use Rattle.cdl_network.specs.Ticks.{Solves, Tick, Valuation}
use Rattle.cdl_network.proofs.Walks.{short_of}
use Rattle.cdl_network.proofs.Inside.{kept_in, kept_true, in_slice, in_filter, origin_inside}
use Rattle.cdl_network.proofs.Solving.{solution, one_list}

-- lists
none_of_at : {A F : Type 0} (f : A → Option F) (x y : A) (o : Option F) (l : Option (A × F)) (P : Type 0) → f y ≡ o → found y o l ≡ None → (x ≡ y) ⊎ P → (l ≡ None → P → f x ≡ None) → f x ≡ None
none_of_at f x y None l P h e (inl q) g = ap f q ∙ h
none_of_at f x y None l P h e (inr j) g = g e j
none_of_at f x y (Some r) l P h e i g = absurd (cc)

pub none_of : {A F : Type 0} (f : A → Option F) (x : A) (xs : List A) → first_of f xs ≡ None → In x xs → f x ≡ None
none_of f x [] e i = absurd i
none_of f x (y ∷ ys) e i = none_of_at f x y (f y) (first_of f ys) (In x ys) refl e i (λ z j. none_of f x ys z j)

count_none : {A : Type 0} (f : A → Bool) (xs : List A) (x : A) → count f xs ≡ 0 → In x xs → f x ≡ true → ⊥
count_none f [] x e i h = i
count_none f (y ∷ ys) x e i h = by_bool (f y)
    (λ g. let z : suc (count f ys) ≡ 0 = sym (ap (λ b. cond b (suc (count f ys)) (count f ys)) g) ∙ e in absurd (omega arith))
    (λ g. let z : count f ys ≡ 0 = sym (ap (λ b. cond b (suc (count f ys)) (count f ys)) g) ∙ e in
    elim i as (λ _. ⊥) [ inl q ↦ false≢true (sym g ∙ ap f (sym q) ∙ h) | inr j ↦ count_none f ys x z j h ])

pub count_one : {A : Type 0} (f : A → Bool) (xs : List A) → count f xs ≡ 1 → (x : A) × In x xs × (f x ≡ true)
count_one f [] e = absurd (omega arith)
count_one f (y ∷ ys) e = by_bool (f y)
    (λ g. (y, inl refl, g))
    (λ g. let z : count f ys ≡ 1 = sym (ap (λ b. cond b (suc (count f ys)) (count f ys)) g) ∙ e in
    let r = count_one f ys z in (r.0, inr r.1, r.2))

pub count_same : {A : Type 0} (f : A → Bool) (xs : List A) (x y : A) → count f xs ≡ 1 → In x xs → In y xs → f x ≡ true → f y ≡ true → x ≡ y
count_same f [] x y e i j g h = absurd i
count_same f (z ∷ zs) x y e i j g h = by_bool (f z)
    (λ t. let u : suc (count f zs) ≡ 1 = sym (ap (λ b. cond b (suc (count f zs)) (count f zs)) t) ∙ e in
    let n : count f zs ≡ 0 = omega arith in
    head i n ∙ sym (heads j n))
    (λ t. let u : count f zs ≡ 1 = sym (ap (λ b. cond b (suc (count f zs)) (count f zs)) t) ∙ e in
    count_same f zs x y u (tail t i g) (tails t j h) g h)
  where
    head : (x ≡ z) ⊎ In x zs → count f zs ≡ 0 → x ≡ z
    head (inl q) n = q
    head (inr k) n = absurd (count_none f zs x n k g)

    heads : (y ≡ z) ⊎ In y zs → count f zs ≡ 0 → y ≡ z
    heads (inl q) n = q
    heads (inr k) n = absurd (count_none f zs y n k h)

    tail : f z ≡ false → (x ≡ z) ⊎ In x zs → f x ≡ true → In x zs
    tail t (inl q) g = absurd (false≢true (sym t ∙ ap f (sym q) ∙ g))
    tail t (inr k) g = k

    tails : f z ≡ false → (y ≡ z) ⊎ In y zs → f y ≡ true → In y zs
    tails t (inl q) g = absurd (false≢true (sym t ∙ ap f (sym q) ∙ g))
    tails t (inr k) g = k

pub slice_in : {A : Type 0} (x : A) (xs : List A) → In x xs → (k : ℕ) × (slice_get xs k ≡ Some x)
slice_in x [] i = absurd i
slice_in x (y ∷ ys) (inl e) = (0, ap Some (sym e))
slice_in x (y ∷ ys) (inr i) = let r = slice_in x ys i in (suc r.0, r.1)

pub apart_filter : {A : Type 0} (f : A → Bool) (xs : List A) → Apart xs → Apart (filter f xs)
apart_filter f [] a = tt
apart_filter f (x ∷ xs) a =
    let r = apart_filter f xs a.1 in
    elim (f x) as (λ b. Apart (cond b (x ∷ filter f xs) (filter f xs))) [ true ↦ (λ i. a.0 (in_filter f x xs i), r) | false ↦ r ]

pub once : {A : Type 0} (xs : List A) (j k : ℕ) (x : A) → Apart xs → slice_get xs j ≡ Some x → slice_get xs k ≡ Some x → j ≡ k
once [] j k x a e f = absurd (cc)
once (y ∷ ys) zero zero x a e f = refl
once (y ∷ ys) zero (suc k) x a e f = let q : y ≡ x = cc in absurd (a.0 (subst (λ z. In z ys) (sym q) (in_slice ys k x f)))
once (y ∷ ys) (suc j) zero x a e f = let q : y ≡ x = cc in absurd (a.0 (subst (λ z. In z ys) (sym q) (in_slice ys j x e)))
once (y ∷ ys) (suc j) (suc k) x a e f = ap suc (once ys j k x a.1 e f)

-- what an origin says of an element
row_fact : {I E : Type 0} (n : Network I E) (x : E) (k : ℕ) → HasOrigin n x (Row k) → (n.input x ≡ true) × (has_some (n.parent (n.owner x)) ≡ false)
row_fact n x k o =
    let t = kept_true (is_root_input n) x n.elements (in_slice (root_inputs n) k x o) in
    let p = and_parts (n.input x) (not (has_some (n.parent (n.owner x)))) t in
    (p.0, not-true (has_some (n.parent (n.owner x))) p.1)

out_fact : {I E : Type 0} (n : Network I E) (x : E) (i : I) (k : ℕ) → Shaped n → HasOrigin n x (Out i k) → (n.input x ≡ false) × (n.owner x ≡ i) × (n.elementary (n.owner x) ≡ true)
out_fact n x i k s o =
    let t = kept_true (λ y. is_of n i y && not (n.input y)) x n.elements (in_slice (outputs_of n i) k x o.2) in
    let p = and_parts (is_of n i x) (not (n.input x)) t in
    let e = s.instances.yes (n.owner x) i p.0 in
    (not-true (n.input x) p.1, e, ap n.elementary e ∙ o.1)

some_of : {A : Type 0} (same : A → A → Bool) (s : A) (o : Option A) → is_some_same same s o ≡ true → has_some o ≡ true
some_of same s None h = h
some_of same s (Some p) h = refl

sink_wanted : {I E : Type 0} (n : Network I E) (s : I) (x : E) → Shaped n → is_sink n s x ≡ true → n.elementary s ≡ false → is_wanted n x ≡ true
sink_wanted n s x z h e = by_bool (n.input x)
    (λ t. ap (λ b. cond b (has_some (n.parent (n.owner x))) (not (n.elementary (n.owner x)))) t
    ∙ some_of n.same_instance s (n.parent (n.owner x)) (sym (ap (λ b. cond b (is_inner n s x) (is_own n s x)) t) ∙ h))
    (λ t. let own : is_own n s x ≡ true = sym (ap (λ b. cond b (is_inner n s x) (is_own n s x)) t) ∙ h in
    let q = z.instances.yes (n.owner x) s own in
    ap (λ b. cond b (has_some (n.parent (n.owner x))) (not (n.elementary (n.owner x)))) t
    ∙ ap not (ap n.elementary q ∙ e))

either_goes : (a b : Bool) (o : Option ℕ) → cond {A = Option ℕ} (a || b) o (Some TWO_SOURCES_OR_SINKS) ≡ None → (a ≡ false) → b ≡ true
either_goes true b o h e = absurd (false≢true (sym e))
either_goes false true o h e = refl
either_goes false false o h e = absurd (cc)

pub sink_end : {I E : Type 0} (n : Network I E) (w : Wire I E) → wire_fault n w ≡ None → is_sink n w.scope (sink_of n w) ≡ true
sink_end n w f = by_bool (goes n w.scope w.left w.right)
    (λ t. ap (λ b. is_sink n w.scope (cond b w.right w.left)) t ∙ (and_parts (is_source n w.scope w.left) (is_sink n w.scope w.right) t).1)
    (λ t. let u = either_goes (goes n w.scope w.left w.right) (goes n w.scope w.right w.left) _ f t in
    ap (λ b. is_sink n w.scope (cond b w.right w.left)) t ∙ (and_parts (is_source n w.scope w.right) (is_sink n w.scope w.left) u).1)

from_fact : {I E : Type 0} (n : Network I E) (x s : E) → Shaped n → first_wire n ≡ None → HasOrigin n x (From s) → is_wanted n x ≡ true
from_fact n x s z f o = subst (λ y. is_wanted n y ≡ true) o.3
    (sink_wanted n o.0.scope (sink_of n o.0) z (sink_end n o.0 (none_of (wire_fault n) o.0 n.wires f o.1)) (z.composite o.0 o.1))

row_not : {I E : Type 0} (n : Network I E) (x : E) (k : ℕ) → HasOrigin n x (Row k) → is_wanted n x ≡ false
row_not n x k o =
    let p = row_fact n x k o in
    ap (λ b. cond b (has_some (n.parent (n.owner x))) (not (n.elementary (n.owner x)))) p.0 ∙ p.1

out_not : {I E : Type 0} (n : Network I E) (x : E) (i : I) (k : ℕ) → Shaped n → HasOrigin n x (Out i k) → is_wanted n x ≡ false
out_not n x i k s o =
    let p = out_fact n x i k s o in
    ap (λ b. cond b (has_some (n.parent (n.owner x))) (not (n.elementary (n.owner x)))) p.0 ∙ ap not p.2

one_arrival : (k : ℕ) → fault_by true k ≡ None → k ≡ 1
one_arrival zero h = absurd (cc)
one_arrival (suc zero) h = refl
one_arrival (suc (suc k)) h = absurd (cc)

pub arrives_once : {I E : Type 0} (n : Network I E) (x : E) → first_element n ≡ None → In x n.elements → is_wanted n x ≡ true → arrivals n x ≡ 1
arrives_once n x f i h = one_arrival (arrivals n x) (sym (ap (λ b. fault_by b (arrivals n x)) h) ∙ none_of (element_fault n) x n.elements f i)

-- each element has an origin
pub has_origin : {I E : Type 0} (n : Network I E) (x : E) → Closed n → Shaped n → first_element n ≡ None → In x n.elements → (c : Origin I E) × HasOrigin n x c
has_origin {I} {E} n x c z f i = by_bool (is_wanted n x)
    (λ h. let a = count_one (λ w. n.same_element (sink_of n w) x) n.wires (arrives_once n x f i h) in
    (From (source_of n a.0), (a.0, a.1, refl, z.elements.yes (sink_of n a.0) x a.2)))
    (λ h. by_bool (n.input x)
    (λ t. let p : has_some (n.parent (n.owner x)) ≡ false = sym (ap (λ b. cond b (has_some (n.parent (n.owner x))) (not (n.elementary (n.owner x)))) t) ∙ h in
    let root : is_root_input n x ≡ true = ap (λ b. b && not (has_some (n.parent (n.owner x)))) t ∙ ap not p in
    let k = slice_in x (root_inputs n) (kept_in (is_root_input n) x n.elements i root) in
    (Row k.0, k.1))
    (λ t. let p : not (n.elementary (n.owner x)) ≡ false = sym (ap (λ b. cond b (has_some (n.parent (n.owner x))) (not (n.elementary (n.owner x)))) t) ∙ h in
    let out : (is_of n (n.owner x) x && not (n.input x)) ≡ true = ap (λ b. b && not (n.input x)) (z.instances.self (n.owner x)) ∙ ap not t in
    let k = slice_in x (outputs_of n (n.owner x)) (kept_in (λ y. is_of n (n.owner x) y && not (n.input y)) x n.elements i out) in
    (Out (n.owner x) k.0, (c.owner x i, is_true (n.elementary (n.owner x)) p, k.1))))
  where
    is_true : (b : Bool) → not b ≡ false → b ≡ true
    is_true true h = refl
    is_true false h = absurd (false≢true (sym h))

-- and no other
pub one_origin : {I E : Type 0} (n : Network I E) (x : E) (c d : Origin I E) → Shaped n → first_wire n ≡ None → first_element n ≡ None → In x n.elements → HasOrigin n x c → HasOrigin n x d → c ≡ d
one_origin n x (Row k) (Row l) z f g i o p = ap Row (once (root_inputs n) k l x (apart_filter (is_root_input n) n.elements z.apart) o p)
one_origin n x (Row k) (From t) z f g i o p = absurd (false≢true (sym (row_not n x k o) ∙ from_fact n x t z f p))
one_origin n x (Row k) (Out j l) z f g i o p = absurd (false≢true (sym (out_fact n x j l z p).0 ∙ (row_fact n x k o).0))
one_origin n x (From s) (Row l) z f g i o p = absurd (false≢true (sym (row_not n x l p) ∙ from_fact n x s z f o))
one_origin n x (From s) (From t) z f g i o p =
    let a = arrives_once n x g i (from_fact n x s z f o) in
    let ends : (y : _) → sink_of n y ≡ x → n.same_element (sink_of n y) x ≡ true = λ y e. ap (λ u. n.same_element u x) e ∙ z.elements.self x in
    let e = count_same (λ w. n.same_element (sink_of n w) x) n.wires o.0 p.0 a o.1 p.1 (ends o.0 o.3) (ends p.0 p.3) in
    ap From (sym o.2 ∙ ap (source_of n) e ∙ p.2)
one_origin n x (From s) (Out j l) z f g i o p = absurd (false≢true (sym (out_not n x j l z p) ∙ from_fact n x s z f o))
one_origin n x (Out j k) (Row l) z f g i o p = absurd (false≢true (sym (out_fact n x j k z o).0 ∙ (row_fact n x l p).0))
one_origin n x (Out j k) (From t) z f g i o p = absurd (false≢true (sym (out_not n x j k z o) ∙ from_fact n x t z f p))
one_origin n x (Out i k) (Out j l) z f g u o p =
    let e : i ≡ j = sym (out_fact n x i k z o).1 ∙ (out_fact n x j l z p).1 in
    let h : slice_get (outputs_of n j) k ≡ Some x = subst (λ y. slice_get (outputs_of n y) k ≡ Some x) e o.2 in
    ap (λ y. Out y k) e ∙ ap (λ y. Out j y) (once (outputs_of n j) k l x (apart_filter (λ y. is_of n j y && not (n.input y)) n.elements z.apart) h p.2)

pub planned_by : {I E : Type 0} (n : Network I E) (top : ℕ) → Closed n → Shaped n → first_wire n ≡ None → first_element n ≡ None → DirectOnly n → ((x y : E) → Walk n x y top → ⊥) → Planned n top
planned_by n top c z f g u o = record {
  each = λ x i. has_origin n x c z g i;
  only = λ x p q h k. one_origin n x p q z f g (origin_inside n x p c h) h k;
  direct = u;
  short = o;
}

pub planned_of : {I E : Type 0} (n : Network I E) → Closed n → Shaped n → first_wire n ≡ None → first_element n ≡ None → DirectOnly n → NoLoop n → Planned n (suc (length n.elements))
planned_of n c z f g u o = planned_by n (suc (length n.elements)) c z f g u (short_of n c z o)

-- a function that gives the origins
decide : {A : Type 0} (same : A → A → Bool) (x : A) (xs : List A) → Tells same → In x xs ⊎ (In x xs → ⊥)
decide same x [] t = inr (λ i. i)
decide same x (y ∷ ys) t = by_bool (same x y)
    (λ h. inl (inl (t.yes x y h)))
    (λ h. elim (decide same x ys t) as (λ _. In x (y ∷ ys) ⊎ (In x (y ∷ ys) → ⊥)) [
      | inl i ↦ inl (inr i)
      | inr never ↦ inr (λ j. elim j as (λ _. ⊥) [ inl e ↦ false≢true (sym h ∙ ap (same x) (sym e) ∙ t.self x) | inr i ↦ never i ])
    ])

chosen : {I E : Type 0} (n : Network I E) (x : E) → In x n.elements ⊎ (In x n.elements → ⊥) → (In x n.elements → (c : Origin I E) × HasOrigin n x c) → Origin I E
chosen n x (inl i) f = (f i).0
chosen n x (inr never) f = Row 0

chosen_has : {I E : Type 0} (n : Network I E) (x : E) (d : In x n.elements ⊎ (In x n.elements → ⊥)) (f : In x n.elements → (c : Origin I E) × HasOrigin n x c) → In x n.elements → HasOrigin n x (chosen n x d f)
unfolding chosen
chosen_has n x (inl i) f j = (f i).1
chosen_has n x (inr never) f j = absurd (never j)

pub origins_of : {I E : Type 0} (n : Network I E) → Closed n → Shaped n → first_element n ≡ None → (o : E → Origin I E) × Origins n o
origins_of n c z g = (
  λ x. chosen n x (decide n.same_element x n.elements z.elements) (λ i. has_origin n x c z g i),
  λ x i. chosen_has n x (decide n.same_element x n.elements z.elements) (λ j. has_origin n x c z g j) i,
)

-- the law of the ticks, from the rules alone
pub checked_solution : {I E : Type 0} (n : Network I E) (ts : List Tick) → Closed n → Shaped n → first_wire n ≡ None → first_element n ≡ None → DirectOnly n → NoLoop n
    → (vs : List (Valuation E)) × Solves n [] ts vs × ((ws : List (Valuation E)) → Solves n [] ts ws → AgreeAll n ws vs)
checked_solution n ts c z f g u o =
    let p = planned_of n c z f g u o in
    let r = origins_of n c z g in
    let s = solution n r.0 _ ts [] c p r.1 in
    (s.0, s.1, λ ws h. one_list n _ ts [] [] ws s.0 c p tt h s.1)
