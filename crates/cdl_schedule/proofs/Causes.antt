-- Where an element has its value from, and what an instance takes.
use Rattle.std.proofs.Common.{ℕ, ◌+◌, ◌-◌, ◌<◌, ◌≤◌, ◌≡◌, ◌&&◌, refl, sym, ap, ◌∙◌, subst, arith, Bool, true, cond, not, inl, inr, List, [], ◌∷◌, ◌++◌, length, get_or, set, Option, Some, None, slice_get}
use Rattle.cdl_source.proofs.Cases.{by_lt, by_bool}
use Rattle.std.specs.Prelude.{nat_le, nat_lt}
use Rattle.std.proofs.lemmas.Bool.{false≢true, cases_eq, eqb-true, eq-eqb, lt-ltb, ltb-true, leb-true, le-leb, and_parts}
use Rattle.std.proofs.lemmas.List.{get_or-set_same, get_or-set_other, length-set}
use Rattle.std.proofs.lemmas.Option.{slice_get_within, slice_get_read}
use Rattle.cdl_kinds.specs.declared.kind.Kind.{Kind}
use Rattle.cdl_kinds.specs.declared.kind.Kind.TheVariants.{LogicalPre, DiscreteUnitDelay}
use Rattle.cdl_kinds.specs.Table.{row}
use Rattle.cdl_network.specs.Dependence.{Origin, Row, From, Out, HasOrigin, direct_of, root_inputs, outputs_of, is_of, is_root_input}
use Rattle.cdl_network.specs.Lists.{In, has_some}
use Rattle.cdl_network.specs.Rules.{is_wanted, sink_of}
use Rattle.cdl_network.proofs.Checking.{count_one, arrives_once, one_origin, slice_in}
use Rattle.cdl_network.proofs.Inside.{kept_in, kept_true, in_slice}
use Rattle.cdl_network.proofs.Renaming.{in_map, of_map}
use Rattle.cdl_connect.proofs.Networks.{in_all, net_closed, net_shaped, none_first}
use Rattle.cdl_connect.specs.declared.net.Net.{Net}
use Rattle.cdl_connect.specs.declared.net.NetInstance.{NetInstance}
use Rattle.cdl_connect.specs.declared.net.NetElement.{NetElement}
use Rattle.cdl_connect.specs.declared.net.RawWire.{RawWire}
use Rattle.cdl_connect.specs.declared.net.Body.{Body}
use Rattle.cdl_connect.specs.declared.net.Body.TheVariants.{Composite, Elementary}
use Rattle.cdl_connect.specs.Faults.{IsChecked}
use Rattle.cdl_connect.specs.Nets.{network_of, element, wire_in, is_block, is_elementary, is_direct_at, is_direct_port}
use Rattle.cdl_schedule.specs.inner.Rows.{AreRows, AreSources, Precedes, added, cause_of, is_direct_body, vertex_count, vertex_of, wire_sink, wire_source}
use Rattle.cdl_schedule.proofs.Building.{rows_pass, rows_add, rows_next, rows_end}
use Rattle.cdl_schedule.proofs.Loops.{has_inside, direct_are, precedes_inside}

-- kinds
pub late_only : (k : Kind) → (k ≡ LogicalPre → ⊥) → (k ≡ DiscreteUnitDelay → ⊥) → (row k).direct ≡ true
late_only LogicalPre f g = absurd (f refl)
late_only DiscreteUnitDelay f g = absurd (g refl)
late_only k f g = refl

body_direct : (b : Body) (j : ℕ) → is_direct_port b j ≡ is_direct_body b
body_direct Composite j = refl
body_direct (Elementary k p) j = refl

body_block : (b : Body) → is_direct_body b ≡ true → is_block b ≡ true
body_block Composite e = e
body_block (Elementary k p) e = refl

-- the sources of sinks
pub sources_start : (n : Net) (sources : List ℕ) → length sources ≡ length n.elements → AreSources n 0 sources
sources_start n sources l = record { size = l; each = λ k w h s. absurd (omega arith) }

same_wire : (n : Net) (k : ℕ) (v w : RawWire) → slice_get n.wires k ≡ Some v → slice_get n.wires k ≡ Some w → v ≡ w
same_wire n k v w a b = let e : Some v ≡ Some w = sym a ∙ b in cc

pub sources_next : (n : Net) (k : ℕ) (w : RawWire) (sink source : ℕ) (sources : List ℕ) → AreSources n k sources → slice_get n.wires k ≡ Some w → sink ≡ wire_sink n w → source ≡ wire_source n w → sink < length n.elements → AreSources n (k + 1) (set sources sink source)
sources_next n k w sink source sources r s a b h = record {
  size = length-set sources sink source ∙ r.size;
  each = λ j v l t. elim (cases_eq (wire_sink n v) sink) as (λ _. (i : ℕ) × (u : RawWire) × (slice_get n.wires i ≡ Some u) × (wire_sink n u ≡ wire_sink n v) × (get_or (set sources sink source) (wire_sink n v) 0 ≡ wire_source n u)) [
    | inl e ↦ (k, w, s, sym a ∙ sym e, ap (λ z. get_or (set sources sink source) z 0) e ∙ get_or-set_same sources sink source 0 (let q = r.size in omega (arith, q)) ∙ b)
    | inr d ↦ (
        let m : j < k = by_lt j k (λ c. c) (λ c. let q : j ≡ k = omega arith in absurd (d (ap (wire_sink n) (same_wire n k v w (subst (λ z. slice_get n.wires z ≡ Some v) q t) s) ∙ sym a))) in
        let o = r.each j v m t in
        (o.0, o.1, o.2, o.3, get_or-set_other sources sink (wire_sink n v) source 0 d ∙ o.4))
  ];
}

-- a sink has its value from its source
from_source : (n : Net) (sources : List ℕ) (x : ℕ) → IsChecked n → AreSources n (length n.wires) sources → x < length n.elements → is_wanted (network_of n) x ≡ true → (s : ℕ) × HasOrigin (network_of n) x (From s) × (get_or sources x 0 ≡ s)
from_source n sources x f a h w =
    let c = count_one (λ v. (network_of n).same_element (sink_of (network_of n) v) x) (network_of n).wires (arrives_once (network_of n) x (none_first n f.unbroken).1 (in_all (length n.elements) x h) w) in
    let v = of_map wire_in c.0 n.wires c.1 in
    let k = slice_in v.0 n.wires v.1 in
    let end : wire_sink n v.0 ≡ x = ap (sink_of (network_of n)) (sym v.2) ∙ eqb-true (sink_of (network_of n) c.0) x c.2 in
    let o = a.each k.0 v.0 (slice_get_within n.wires k.0 v.0 k.1) k.1 in
    (wire_source n o.1, (wire_in o.1, in_map wire_in o.1 n.wires (in_slice n.wires o.0 o.1 o.2), refl {a = wire_source n o.1}, o.3 ∙ end), ap (λ z. get_or sources z 0) (sym end) ∙ o.4)

pub cause_is : (n : Net) (sources : List ℕ) (x : ℕ) → IsChecked n → AreSources n (length n.wires) sources → x < length n.elements → (c : Origin ℕ ℕ) × HasOrigin (network_of n) x c × (vertex_of (length n.elements) c ≡ cause_of n sources x)
cause_is n sources x f a h =
    let i = in_all (length n.elements) x h in
    let m : ℕ = length n.elements in
    let up : Bool = has_some ((network_of n).parent ((network_of n).owner x)) in
    let block : Bool = (network_of n).elementary ((network_of n).owner x) in
    let s : Option ℕ = Some (get_or sources x 0) in
    let out : Option ℕ = Some (m + (network_of n).owner x) in
    by_bool ((network_of n).input x)
    (λ t. by_bool up
    (λ p.
    let r = from_source n sources x f a h (ap (λ b. cond b up (not block)) t ∙ p) in
    (From r.0, r.1, sym (ap (λ b. cond b (cond up s None) (cond block out s)) t ∙ ap (λ b. cond b s None) p ∙ ap Some r.2)))
    (λ p.
    let root : is_root_input (network_of n) x ≡ true = ap (λ b. b && not up) t ∙ ap not p in
    let k = slice_in x (root_inputs (network_of n)) (kept_in (is_root_input (network_of n)) x (network_of n).elements i root) in
    (Row k.0, k.1, sym (ap (λ b. cond b (cond up s None) (cond block out s)) t ∙ ap (λ b. cond b s None) p))))
    (λ t. by_bool block
    (λ p.
    let own : (is_of (network_of n) ((network_of n).owner x) x && not ((network_of n).input x)) ≡ true = ap (λ b. b && not ((network_of n).input x)) (eq-eqb ((network_of n).owner x) ((network_of n).owner x) refl) ∙ ap not t in
    let k = slice_in x (outputs_of (network_of n) ((network_of n).owner x)) (kept_in (λ y. is_of (network_of n) ((network_of n).owner x) y && not ((network_of n).input y)) x (network_of n).elements i own) in
    (Out ((network_of n).owner x) k.0, ((net_closed n f.indexed).owner x i, p, k.1), sym (ap (λ b. cond b (cond up s None) (cond block out s)) t ∙ ap (λ b. cond b out s) p)))
    (λ p.
    let r = from_source n sources x f a h (ap (λ b. cond b up (not block)) t ∙ ap not p) in
    (From r.0, r.1, sym (ap (λ b. cond b (cond up s None) (cond block out s)) t ∙ ap (λ b. cond b out s) p ∙ ap Some r.2))))

-- all that precedes an element is its cause
preceding : (n : Net) (sources : List ℕ) (x u : ℕ) → IsChecked n → AreSources n (length n.wires) sources → x < length n.elements → Precedes n u x → cause_of n sources x ≡ Some u
preceding n sources x u f a h (inl g) =
    let c = cause_is n sources x f a h in
    let r = none_first n f.unbroken in
    let e = one_origin (network_of n) x c.0 g.0 (net_shaped n f.indexed) r.0 r.1 (in_all (length n.elements) x h) c.1 g.1 in
    sym c.2 ∙ ap (vertex_of (length n.elements)) e ∙ g.2
preceding n sources x u f a h (inr t) = let e = t.1 in absurd (omega (arith, e, h))

none_precedes : (n : Net) (sources : List ℕ) (x : ℕ) → IsChecked n → AreSources n (length n.wires) sources → x < length n.elements → cause_of n sources x ≡ None → (u : ℕ) → Precedes n u x → ⊥
none_precedes n sources x f a h e u p = let q : Some u ≡ None = sym (preceding n sources x u f a h p) ∙ e in absurd (cc)

cause_precedes : (n : Net) (sources : List ℕ) (x u : ℕ) → IsChecked n → AreSources n (length n.wires) sources → x < length n.elements → cause_of n sources x ≡ Some u → Precedes n u x
cause_precedes n sources x u f a h e = let c = cause_is n sources x f a h in inl (c.0, c.1, c.2 ∙ e)

only_cause : (n : Net) (sources : List ℕ) (x u : ℕ) → IsChecked n → AreSources n (length n.wires) sources → x < length n.elements → cause_of n sources x ≡ Some u → (w : ℕ) → Precedes n w x → w ≡ u
only_cause n sources x u f a h e w p = let q : Some w ≡ Some u = sym (preceding n sources x w f a h p) ∙ e in cc

pub element_row : (n : Net) (sources : List ℕ) (x u : ℕ) (first edges edges2 : List ℕ) → IsChecked n → AreSources n (length n.wires) sources → x < length n.elements → cause_of n sources x ≡ Some u → edges2 ≡ edges ++ u ∷ [] → AreRows (Precedes n) (vertex_count n) x 0 first edges → AreRows (Precedes n) (vertex_count n) x (vertex_count n) first edges2
element_row n sources x u first edges edges2 f a h e z r =
    let p = cause_precedes n sources x u f a h e in
    let s = rows_pass (Precedes n) (vertex_count n) x 0 u first edges r (λ w i j d. let q = only_cause n sources x u f a h e w d in omega (arith, q, j)) in
    let t = rows_add (Precedes n) (vertex_count n) x u first edges s (precedes_inside n u x f p).0 p in
    let y = rows_pass (Precedes n) (vertex_count n) x (u + 1) (vertex_count n) first (edges ++ u ∷ []) t (λ w i j d. let q = only_cause n sources x u f a h e w d in omega (arith, q, i)) in
    subst (λ l. AreRows (Precedes n) (vertex_count n) x (vertex_count n) first l) (sym z) y

pub empty_row : (n : Net) (sources : List ℕ) (x : ℕ) (first edges : List ℕ) → IsChecked n → AreSources n (length n.wires) sources → x < length n.elements → cause_of n sources x ≡ None → AreRows (Precedes n) (vertex_count n) x 0 first edges → AreRows (Precedes n) (vertex_count n) x (vertex_count n) first edges
empty_row n sources x first edges f a h e r = rows_pass (Precedes n) (vertex_count n) x 0 (vertex_count n) first edges r (λ u i j d. none_precedes n sources x f a h e u d)

-- the direct inputs of an instance
direct_fact : (n : Net) (i x : ℕ) → In x (direct_of (network_of n) i) → ((element n x).instance ≡ i) × ((element n x).input ≡ true) × ((network_of n).direct x ≡ true)
direct_fact n i x h =
    let t = kept_true (λ y. is_of (network_of n) i y && ((network_of n).input y && (network_of n).direct y)) x (network_of n).elements h in
    let p = and_parts (is_of (network_of n) i x) ((network_of n).input x && (network_of n).direct x) t in
    let q = and_parts ((network_of n).input x) ((network_of n).direct x) p.1 in
    (eqb-true (element n x).instance i p.0, q.0, q.1)

direct_is : (n : Net) (i x : ℕ) (t : NetInstance) → slice_get n.instances i ≡ Some t → (element n x).instance ≡ i → (network_of n).direct x ≡ is_direct_body t.body
direct_is n i x t s e = ap (λ j. is_direct_at (slice_get n.instances j) x) e ∙ ap (λ o. is_direct_at o x) s ∙ body_direct t.body (x - t.first)

own_window : (n : Net) (i x : ℕ) (t : NetInstance) → IsChecked n → slice_get n.instances i ≡ Some t → x < length n.elements → (element n x).instance ≡ i → (t.first ≤ x) × (x < t.first + t.count)
own_window n i x t f s h e =
    let w = sym (f.indexed.windows.own i t x s h) ∙ eq-eqb (element n x).instance i e in
    let p = and_parts (nat_le t.first x) (nat_lt x (t.first + t.count)) w in
    (leb-true t.first x p.0, ltb-true x (t.first + t.count) p.1)

window_own : (n : Net) (i x : ℕ) (t : NetInstance) → IsChecked n → slice_get n.instances i ≡ Some t → x < length n.elements → t.first ≤ x → x < t.first + t.count → (element n x).instance ≡ i
window_own n i x t f s h a b =
    let w : (nat_le t.first x && nat_lt x (t.first + t.count)) ≡ true = ap (λ c. c && nat_lt x (t.first + t.count)) (le-leb t.first x a) ∙ lt-ltb x (t.first + t.count) b in
    eqb-true (element n x).instance i (f.indexed.windows.own i t x s h ∙ w)

-- all that precedes an instance is in its window
pub taken_window : (n : Net) (i u : ℕ) (t : NetInstance) → IsChecked n → slice_get n.instances i ≡ Some t → Precedes n u (length n.elements + i) → (t.first ≤ u) × (u < t.first + t.count) × In u (direct_of (network_of n) i)
taken_window n i u t f s (inl g) = let h = has_inside n (length n.elements + i) g.0 f g.1 in absurd (omega (arith, h))
taken_window n i u t f s (inr k) =
    let e : k.0 ≡ i = let q = k.1 in omega (arith, q) in
    let d = subst (λ j. In u (direct_of (network_of n) j)) e k.3 in
    let w = own_window n i u t f s (direct_are n i u d) (direct_fact n i u d).0 in
    (w.0, w.1, d)

pub instance_start : (n : Net) (i : ℕ) (t : NetInstance) (first edges : List ℕ) → IsChecked n → slice_get n.instances i ≡ Some t → AreRows (Precedes n) (vertex_count n) (length n.elements + i) 0 first edges → AreRows (Precedes n) (vertex_count n) (length n.elements + i) t.first first edges
instance_start n i t first edges f s r = rows_pass (Precedes n) (vertex_count n) (length n.elements + i) 0 t.first first edges r (λ u a b d. let w = (taken_window n i u t f s d).0 in omega (arith, w, b))

wanted_taken : (n : Net) (i x : ℕ) (t : NetInstance) → IsChecked n → slice_get n.instances i ≡ Some t → x < length n.elements → t.first ≤ x → x < t.first + t.count → (is_direct_body t.body && (element n x).input) ≡ true → Precedes n x (length n.elements + i)
wanted_taken n i x t f s h a b e =
    let p = and_parts (is_direct_body t.body) (element n x).input e in
    let own = window_own n i x t f s h a b in
    let d : (network_of n).direct x ≡ true = direct_is n i x t s own ∙ p.0 in
    let both : (is_of (network_of n) i x && ((network_of n).input x && (network_of n).direct x)) ≡ true =
    ap (λ c. c && ((network_of n).input x && (network_of n).direct x)) (eq-eqb (element n x).instance i own) ∙ ap (λ c. c && (network_of n).direct x) p.1 ∙ d in
    let block : (network_of n).elementary i ≡ true = ap is_elementary s ∙ body_block t.body p.0 in
    inr (i, refl, block, kept_in (λ y. is_of (network_of n) i y && ((network_of n).input y && (network_of n).direct y)) x (network_of n).elements (in_all (length n.elements) x h) both)

taken_wanted : (n : Net) (i x : ℕ) (t : NetInstance) → IsChecked n → slice_get n.instances i ≡ Some t → Precedes n x (length n.elements + i) → (is_direct_body t.body && (element n x).input) ≡ true
taken_wanted n i x t f s p =
    let w = taken_window n i x t f s p in
    let d = direct_fact n i x w.2 in
    let b : is_direct_body t.body ≡ true = sym (direct_is n i x t s d.0) ∙ d.2 in
    ap (λ c. c && (element n x).input) b ∙ d.1

-- one element more of the window
pub instance_next : (n : Net) (i x : ℕ) (t : NetInstance) (wanted : Bool) (first edges edges2 : List ℕ) → IsChecked n → slice_get n.instances i ≡ Some t → t.first ≤ x → x < t.first + t.count → wanted ≡ (is_direct_body t.body && (element n x).input) → edges2 ≡ added wanted edges x
    → AreRows (Precedes n) (vertex_count n) (length n.elements + i) x first edges → AreRows (Precedes n) (vertex_count n) (length n.elements + i) (x + 1) first edges2
instance_next n i x t wanted first edges edges2 f s a b w e r =
    let h : x < length n.elements = let l = f.indexed.windows.within i t s in omega (arith, l, b) in
    rows_next (Precedes n) (vertex_count n) (length n.elements + i) x wanted first edges edges2 r (omega (arith, h)) e
    (λ y. wanted_taken n i x t f s h a b (sym w ∙ y))
    (λ z p. false≢true (sym z ∙ w ∙ taken_wanted n i x t f s p))

pub instance_end : (n : Net) (i x : ℕ) (t : NetInstance) (xs : List NetElement) (first edges : List ℕ) → IsChecked n → slice_get n.instances i ≡ Some t → xs ≡ n.elements → t.first + t.count ≤ x
    → AreRows (Precedes n) (vertex_count n) (length n.elements + i) x first edges → AreRows (Precedes n) (vertex_count n) (length xs + i) (vertex_count n) first edges
instance_end n i x t xs first edges f s e h r =
    let p = rows_pass (Precedes n) (vertex_count n) (length n.elements + i) x (vertex_count n) first edges r (λ u a b d. let w = (taken_window n i u t f s d).1 in omega (arith, w, a, h)) in
    subst (λ l. AreRows (Precedes n) (vertex_count n) (length l + i) (vertex_count n) first edges) (sym e) p

-- what is read at a place
pub read_is : {X : Type 0} (xs ys : List X) (k : ℕ) (x : X) → xs ≡ ys → k < length ys → x ≡ get_or xs k x → slice_get ys k ≡ Some x
read_is xs ys k x q h e = slice_get_read ys (length ys) k x refl h (e ∙ ap (λ l. get_or l k x) q)

pub below_items : (n : Net) (i x : ℕ) (t : NetInstance) → IsChecked n → slice_get n.instances i ≡ Some t → x < t.first + t.count → x < length n.elements
below_items n i x t f s h = let l = f.indexed.windows.within i t s in omega (arith, l, h)

pub row_ended : (n : Net) (v : ℕ) (first edges first2 : List ℕ) (z : ℕ) → IsChecked n → AreRows (Precedes n) (vertex_count n) v (vertex_count n) first edges → first2 ≡ first ++ z ∷ [] → z ≡ length edges → AreRows (Precedes n) (vertex_count n) (v + 1) 0 first2 edges
row_ended n v first edges first2 z f r e q =
    let p = rows_end (Precedes n) (vertex_count n) v (vertex_count n) first edges r (λ u d. (precedes_inside n u v f d).0) in
    let s : first ++ length edges ∷ [] ≡ first2 = ap (λ y. first ++ y ∷ []) (sym q) ∙ sym e in
    subst (λ l. AreRows (Precedes n) (vertex_count n) (v + 1) 0 l edges) s p

pub rows_whole : (n : Net) (i k : ℕ) (first edges : List ℕ) → AreRows (Precedes n) (vertex_count n) (length n.elements + i) 0 first edges → i ≤ k → k ≤ i → k ≡ length n.instances → AreRows (Precedes n) (vertex_count n) (vertex_count n) 0 first edges
rows_whole n i k first edges r a b e =
    let q : length n.elements + i ≡ length n.elements + length n.instances = omega (arith, a, b, e) in
    subst (λ v. AreRows (Precedes n) (vertex_count n) v 0 first edges) q r

pub rows_of_instances : (n : Net) (x k : ℕ) (first edges : List ℕ) → AreRows (Precedes n) (vertex_count n) x 0 first edges → x ≤ k → k ≤ x → k ≡ length n.elements → AreRows (Precedes n) (vertex_count n) (length n.elements + 0) 0 first edges
rows_of_instances n x k first edges r a b e =
    let q : x ≡ length n.elements + 0 = omega (arith, a, b, e) in
    subst (λ v. AreRows (Precedes n) (vertex_count n) v 0 first edges) q r
