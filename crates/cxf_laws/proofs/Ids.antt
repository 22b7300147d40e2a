-- The `@id`s of the graph of a well-formed net are apart, and its nodes are fine.
use Rattle.std.proofs.Common.{ℕ, zero, suc, ◌+◌, ◌<◌, ◌≤◌, ◌≡◌, ◌⊎◌, refl, sym, ap, ◌∙◌, true, false, inl, inr, ⊎_elim, List, [], ◌∷◌, ◌++◌, length, map, take, drop, get_or, slice_get, Some, All, arith}
use Rattle.std.specs.Prelude.{nat_le, nat_lt}
use Rattle.std.proofs.lemmas.Bool.{and_from, eqb-true, le-leb, lt-ltb, true≢false}
use Rattle.std.proofs.lemmas.List.{map-append}
use Rattle.std.proofs.lemmas.List.Elements.{All-drop, All-from_get_or, All-take}
use Rattle.std.proofs.lemmas.Option.{slice_get_within}
use Rattle.std.proofs.Math.Seq.{drop-cons}
use Rattle.cdl_source.specs.declared.limits.TheConstants.{LONGEST_UNIT}
use Rattle.cdl_network.specs.Lists.{Apart, In, numbers}
use Rattle.cdl_network.specs.Rules.{is_empty, is_real}
use Rattle.cdl_source.proofs.Cases.{by_bool}
use Rattle.cdl_network.proofs.Places.{in_numbers}
use Rattle.cdl_network.proofs.Renaming.{of_map}
use Rattle.cdl_connect.proofs.Networks.{apart_numbers}
use Rattle.cdl_connect.specs.declared.net.Body.{Body}
use Rattle.cdl_connect.specs.declared.net.Body.TheVariants.{Composite, Elementary}
use Rattle.cdl_connect.specs.declared.net.Net.{Net}
use Rattle.cdl_connect.specs.declared.net.NetElement.{NetElement}
use Rattle.cdl_connect.specs.declared.net.NetInstance.{NetInstance}
use Rattle.cdl_connect.specs.Nets.{element, no_element}
use Rattle.cdl_connect.specs.Paths.{extended}
use Rattle.cdl_connect.specs.WellFormed.{IsWellFormed, is_plain, path_in, path_of}
use Rattle.cxf_graph.specs.declared.graph.GraphNode.{GraphNode}
use Rattle.cxf_graph.specs.Reading.{AreFine, IsFineBody, IsGraphOf, in_order}
use Rattle.cxf_graph.specs.Written.{body_with, connector_node, element_id, graph_of, inner, nodes_from, nodes_with, own, own_id, parts}
use Rattle.cxf_graph.specs.Document.{document}
use Rattle.cxf_graph.proofs.Back.{graph_back}
use Rattle.cxf_graph.proofs.Writable.{StandAt, all_stand, first_stands, rest_stand}
use Rattle.cxf_laws.proofs.Arrays.{apart_append, apart_map, in_append}
use Rattle.cxf_laws.proofs.Paths.{id_apart, path_apart, path_not_id}

-- what stands at some places of a list
map_window : {A B : Type 0} (g : A → B) (xs : List A) (d : A) (f c : ℕ) → f + c ≤ length xs → map g (take c (drop f xs)) ≡ map (λ x. g (get_or xs x d)) (numbers f c)
map_window g xs d f zero h = refl
map_window g xs d f (suc c) h = rw (drop-cons xs f d (omega arith)) (ap (λ l. g (get_or xs f d) ∷ l) (map_window g xs d (suc f) c (omega arith)))

map_like : {A B : Type 0} (f g : A → B) (xs : List A) → ((x : A) → In x xs → f x ≡ g x) → map f xs ≡ map g xs
map_like f g [] h = refl
map_like f g (x ∷ xs) h = rw (h x (inl refl), map_like f g xs (λ y i. h y (inr i))) refl

map_both : {A B C : Type 0} (f : A → B) (g : B → C) (xs : List A) → map g (map f xs) ≡ map (λ x. g (f x)) xs
map_both f g [] = refl
map_both f g (x ∷ xs) = ap (λ l. g (f x) ∷ l) (map_both f g xs)

abbrev id_of : GraphNode → List ℕ
id_of m = m.id

-- the instance that has an element of its window
owner_is : (n : Net) → IsWellFormed n → (i : ℕ) (t : NetInstance) → slice_get n.instances i ≡ Some t → (x : ℕ) → In x (numbers t.first t.count) → (x < length n.elements) × ((element n x).instance ≡ i)
owner_is n w i t s x j =
    let r = in_numbers t.first t.count x j in
    let h = w.windows.within i t s in
    let a : x < t.first + t.count = r.1 in
    let l : x < length n.elements = omega arith in
    let e = w.windows.own i t x s l ∙ and_from (nat_le t.first x) (nat_lt x (t.first + t.count)) (le-leb t.first x r.0) (lt-ltb x (t.first + t.count) a) in
    (l, eqb-true (element n x).instance i e)

-- the `@id`s of an instance's elements
own_ids : (n : Net) → IsWellFormed n → (i : ℕ) (t : NetInstance) → slice_get n.instances i ≡ Some t → map id_of (map (connector_node t) (own n t)) ≡ map (element_id n) (numbers t.first t.count)
own_ids n w i t s =
    map_both (connector_node t) id_of (own n t)
    ∙ map_window (own_id t) n.elements no_element t.first t.count (w.windows.within i t s)
    ∙ map_like (λ x. own_id t (element n x)) (element_id n) (numbers t.first t.count) (λ x j.
    let o = owner_is n w i t s x j in
    let p : path_of n (element n x).instance ≡ t.path = ap (path_of n) o.1 ∙ ap path_in s in
    ap (λ z. extended z (element n x).name) (sym p))

-- the `@id` of an instance from that number on, or of an element of such a one
abbrev IsFrom : Net → ℕ → List ℕ → Type 0
IsFrom n i z = ((j : ℕ) × (i ≤ j) × (j < length n.instances) × (z ≡ path_of n j)) ⊎ ((x : ℕ) × (x < length n.elements) × (i ≤ (element n x).instance) × (z ≡ element_id n x))

-- the `@id`s of an instance and of its elements
abbrev group_ids : Net → ℕ → NetInstance → List (List ℕ)
group_ids n i t = path_of n i ∷ map (element_id n) (numbers t.first t.count)

from_group : (n : Net) → IsWellFormed n → (i : ℕ) (t : NetInstance) → slice_get n.instances i ≡ Some t → (z : List ℕ) → In z (group_ids n i t) → IsFrom n i z
from_group n w i t s z (inl e) = inl (i, omega arith, slice_get_within n.instances i t s, e)
from_group n w i t s z (inr j) =
    let r = of_map (element_id n) z (numbers t.first t.count) j in
    let o = owner_is n w i t s r.0 r.1 in
    inr (r.0, o.0, omega (arith, o.1), r.2)

group_apart : (n : Net) → IsWellFormed n → (i : ℕ) (t : NetInstance) → slice_get n.instances i ≡ Some t → Apart (group_ids n i t)
group_apart n w i t s = (
  λ j.
      let r = of_map (element_id n) (path_of n i) (numbers t.first t.count) j in
      path_not_id n w i r.0 (slice_get_within n.instances i t s) (owner_is n w i t s r.0 r.1).0 r.2,
  apart_map (element_id n) (numbers t.first t.count) (λ x y a b e. id_apart n w x y (owner_is n w i t s x a).0 (owner_is n w i t s y b).0 e) (apart_numbers t.first t.count),
)

-- no `@id` of an instance or of its elements is one of a later instance
group_past : (n : Net) → IsWellFormed n → (i : ℕ) (t : NetInstance) → slice_get n.instances i ≡ Some t → (z : List ℕ) → In z (group_ids n i t) → IsFrom n (suc i) z → ⊥
group_past n w i t s z (inl e) (inl f) =
    let h = slice_get_within n.instances i t s in
    let q = path_apart n w (suc i) i f.0 (omega arith) h f.2 (sym e ∙ f.3) in
    absurd (omega (arith, f.1, q))
group_past n w i t s z (inl e) (inr f) = path_not_id n w i f.0 (slice_get_within n.instances i t s) f.1 (sym e ∙ f.3)
group_past n w i t s z (inr j) (inl f) =
    let r = of_map (element_id n) z (numbers t.first t.count) j in
    path_not_id n w f.0 r.0 f.2 (owner_is n w i t s r.0 r.1).0 (sym f.3 ∙ r.2)
group_past n w i t s z (inr j) (inr f) =
    let r = of_map (element_id n) z (numbers t.first t.count) j in
    let o = owner_is n w i t s r.0 r.1 in
    let q = id_apart n w r.0 f.0 o.0 f.1 (sym r.2 ∙ f.3) in
    let p : (element n f.0).instance ≡ i = ap (λ x. (element n x).instance) (sym q) ∙ o.1 in
    absurd (omega (arith, f.2, p))

-- the `@id`s of these instances and their elements, of which the first has that number
abbrev ids_from : Net → ℕ → List NetInstance → List (List ℕ)
ids_from n i [] = []
ids_from n i (t ∷ ts) = group_ids n i t ++ ids_from n (suc i) ts

later_from : (n : Net) (i : ℕ) (z : List ℕ) → IsFrom n (suc i) z → IsFrom n i z
later_from n i z (inl f) = inl (f.0, omega (arith, f.1), f.2, f.3)
later_from n i z (inr f) = inr (f.0, f.1, omega (arith, f.2), f.3)

all_from : (n : Net) → IsWellFormed n → (i : ℕ) (ts : List NetInstance) → StandAt n i ts → (z : List ℕ) → In z (ids_from n i ts) → IsFrom n i z
all_from n w i [] s z j = absurd j
all_from n w i (t ∷ ts) s z j = ⊎_elim
    (λ k. from_group n w i t (first_stands n i t ts s) z k)
    (λ k. later_from n i z (all_from n w (suc i) ts (rest_stand n i t ts s) z k))
    (in_append z (group_ids n i t) (ids_from n (suc i) ts) j)

ids_from_apart : (n : Net) → IsWellFormed n → (i : ℕ) (ts : List NetInstance) → StandAt n i ts → Apart (ids_from n i ts)
ids_from_apart n w i [] s = tt
ids_from_apart n w i (t ∷ ts) s =
    let e = first_stands n i t ts s in
    let g = rest_stand n i t ts s in
    apart_append (group_ids n i t) (ids_from n (suc i) ts) (group_apart n w i t e) (ids_from_apart n w (suc i) ts g) (λ z a b. group_past n w i t e z a (all_from n w (suc i) ts g z b))

ids_are : (n : Net) → IsWellFormed n → (i : ℕ) (ts : List NetInstance) → StandAt n i ts → map id_of (nodes_from n i ts) ≡ ids_from n i ts
ids_are n w i [] s = refl
ids_are n w i (t ∷ ts) s =
    let e = first_stands n i t ts s in
    let p : t.path ≡ path_of n i = sym (ap path_in e) in
    let r = ids_are n w (suc i) ts (rest_stand n i t ts s) in
    map-append id_of (nodes_with n t (parts n i) (inner n i)) (nodes_from n (suc i) ts)
    ∙ rw (own_ids n w i t e, p, r) refl

pub ids_apart : (n : Net) → IsWellFormed n → Apart (map id_of (nodes_from n 0 n.instances))
ids_apart n w = rw (ids_are n w 0 n.instances (all_stand n)) (ids_from_apart n w 0 n.instances (all_stand n))

-- fine nodes
fine_append : (ms ns : List GraphNode) → AreFine ms → AreFine ns → AreFine (ms ++ ns)
fine_append [] ns a b = b
fine_append (m ∷ ms) ns a b = (a.0, fine_append ms ns a.1 b)

abbrev IsFine : NetElement → Type 0
IsFine e = (is_plain e.value_type ≡ true) × (is_empty e.unit ≡ false → is_real e.value_type ≡ true) × (length e.unit ≤ LONGEST_UNIT)

some_unit : (e : NetElement) → (is_real e.value_type ≡ false → e.unit ≡ []) → is_empty e.unit ≡ false → is_real e.value_type ≡ true
some_unit e f h = by_bool (is_real e.value_type) (λ t. t) (λ t. absurd (true≢false (sym (ap is_empty (f t)) ∙ h)))

elements_fine : (n : Net) → IsWellFormed n → All IsFine n.elements
elements_fine n w = All-from_get_or IsFine n.elements no_element (λ x h. (w.plain.each x h, some_unit (element n x) (w.units.real x h), w.units.short x h))

connectors_fine : (t : NetInstance) (es : List NetElement) → All IsFine es → AreFine (map (connector_node t) es)
connectors_fine t [] a = tt
connectors_fine t (e ∷ es) a = (a 0 e (omega arith), connectors_fine t es (λ k d h. a (suc k) d (omega arith)))

body_fine : (n : Net) (i : ℕ) (t : NetInstance) (b : Body) → IsFineBody (body_with n t (own n t) (parts n i) (inner n i) b)
body_fine n i t Composite = tt
body_fine n i t (Elementary k v) = tt

pub nodes_fine : (n : Net) → IsWellFormed n → (i : ℕ) (ts : List NetInstance) → AreFine (nodes_from n i ts)
nodes_fine n w i [] = tt
nodes_fine n w i (t ∷ ts) = fine_append (nodes_with n t (parts n i) (inner n i)) (nodes_from n (suc i) ts)
    (body_fine n i t t.body, connectors_fine t (own n t) (All-take IsFine t.count (drop t.first n.elements) (All-drop IsFine t.first n.elements (elements_fine n w))))
    (nodes_fine n w (suc i) ts)

pub net_back : (n : Net) → IsWellFormed n → IsGraphOf (document (graph_of n)) (in_order (graph_of n))
net_back n w = graph_back (graph_of n) (nodes_fine n w 0 n.instances) (ids_apart n w)
