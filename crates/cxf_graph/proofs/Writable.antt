-- The graph of a well-formed net can be written.
use Rattle.std.proofs.Common.{ℕ, suc, ◌+◌, ◌<◌, ◌≡◌, ◌==◌, refl, sym, ap, ◌∙◌, subst, true, false, cond, List, [], ◌∷◌, map, drop, length, IsUtf8, All, Some, slice_get, arith, get_or}
use Rattle.std.proofs.lemmas.List.Elements.{All-append, All-cons, All-drop, All-filter, All-from_get_or, All-map, All-nil, All-take}
use Rattle.std.proofs.lemmas.Option.{slice_get-get_or, slice_get_within}
use Rattle.cdl_network.specs.Rules.{goes, is_some_same}
use Rattle.cdl_connect.specs.declared.net.Body.{Body}
use Rattle.cdl_connect.specs.declared.net.Body.TheVariants.{Composite, Elementary}
use Rattle.cdl_connect.specs.declared.net.Net.{Net}
use Rattle.cdl_connect.specs.declared.net.NetElement.{NetElement}
use Rattle.cdl_connect.specs.declared.net.NetInstance.{NetInstance}
use Rattle.cdl_connect.specs.declared.net.RawWire.{RawWire}
use Rattle.cdl_connect.specs.Nets.{element, network_of, no_element}
use Rattle.cdl_connect.specs.WellFormed.{FitsBody, IsWellFormed, is_plain, path_of}
use Rattle.cxf_graph.specs.declared.graph.Graph.{Graph}
use Rattle.cxf_graph.specs.declared.graph.GraphNode.{GraphNode}
use Rattle.cxf_graph.specs.Document.{IsBody, IsNode, IsPair, IsWritable}
use Rattle.cxf_graph.specs.Written.{HasEnds, body_with, connection, connector_node, element_id, graph_of, inner, nodes_from, nodes_with, own, own_id, parts}
use Rattle.cxf_graph.proofs.Each.{ends_in}
use Rattle.cxf_graph.proofs.Parameters.{given_writable, name_utf8}
use Rattle.cxf_graph.proofs.Parents.{element_name_utf8, path_utf8}
use Rattle.cxf_graph.proofs.Texts.{extended_utf8}

-- an element can be written
abbrev IsFine : NetElement → Type 0
IsFine e = IsUtf8 e.name × (is_plain e.value_type ≡ true) × IsUtf8 e.unit

elements_fine : (n : Net) → IsWellFormed n → All IsFine n.elements
elements_fine n w = All-from_get_or IsFine n.elements no_element (λ x h. (element_name_utf8 n w x h, w.plain.each x h, w.units.utf8 x h))

path_at : (n : Net) → IsWellFormed n → (i : ℕ) → i < length n.instances → IsUtf8 (path_of n i)
path_at n w i h = path_utf8 n w (suc i) i (omega arith) h

own_path : (n : Net) → IsWellFormed n → (i : ℕ) (t : NetInstance) → slice_get n.instances i ≡ Some t → IsUtf8 t.path
own_path n w i t s = let p : IsUtf8 (path_of n i) = path_at n w i (slice_get_within n.instances i t s) in rw s at p

paths_fine : (n : Net) → IsWellFormed n → All (λ (t : NetInstance). IsUtf8 t.path) n.instances
paths_fine n w i d h = own_path n w i (get_or n.instances i d) (slice_get-get_or n.instances i d h)

own_fine : (n : Net) (t : NetInstance) → IsWellFormed n → All IsFine (own n t)
own_fine n t w = All-take IsFine t.count (drop t.first n.elements) (All-drop IsFine t.first n.elements (elements_fine n w))

ids_writable : (t : NetInstance) (es : List NetElement) → IsUtf8 t.path → All IsFine es → All IsUtf8 (map (own_id t) es)
ids_writable t es p a = All-map IsUtf8 (own_id t) es (λ k d h. extended_utf8 t.path _ p (a k d h).0)

parts_writable : (n : Net) (i : ℕ) → IsWellFormed n → All IsUtf8 (map (λ (t : NetInstance). t.path) (parts n i))
parts_writable n i w = All-map IsUtf8 (λ (t : NetInstance). t.path) (parts n i) (All-filter (λ t. is_some_same (λ p q. p == q) i t.parent) (λ (t : NetInstance). IsUtf8 t.path) n.instances (paths_fine n w))

id_writable : (n : Net) → IsWellFormed n → (x : ℕ) → x < length n.elements → IsUtf8 (element_id n x)
id_writable n w x h = extended_utf8 (path_of n (element n x).instance) (element n x).name (path_at n w (element n x).instance (w.numbers.owner x h)) (element_name_utf8 n w x h)

pair_writable : (n : Net) → IsWellFormed n → (v : RawWire) → HasEnds n v → IsPair (connection n v)
pair_writable n w v h = elim (goes (network_of n) v.scope v.left v.right) as (λ b. IsUtf8 (element_id n (cond b v.left v.right)) × IsUtf8 (element_id n (cond b v.right v.left))) [
  | true ↦ (id_writable n w v.left h.0, id_writable n w v.right h.1)
  | false ↦ (id_writable n w v.right h.1, id_writable n w v.left h.0)
]

pairs_writable : (n : Net) (i : ℕ) → IsWellFormed n → All IsPair (map (connection n) (inner n i))
pairs_writable n i w = All-map IsPair (connection n) (inner n i) (λ k d h. pair_writable n w _ (ends_in n i (inner n i) w.numbers refl k d h))

body_writable : (n : Net) (i : ℕ) (t : NetInstance) (b : Body) → IsWellFormed n → IsUtf8 t.path → FitsBody n t b → IsBody (body_with n t (own n t) (parts n i) (inner n i) b)
body_writable n i t Composite w p f = (ids_writable t (own n t) p (own_fine n t w), parts_writable n i w, pairs_writable n i w)
body_writable n i t (Elementary k v) w p f = (name_utf8 k, given_writable k v f.keeps, ids_writable t (own n t) p (own_fine n t w))

instance_writable : (n : Net) → IsWellFormed n → (i : ℕ) (t : NetInstance) → slice_get n.instances i ≡ Some t → All IsNode (nodes_with n t (parts n i) (inner n i))
instance_writable n w i t s =
    let p = own_path n w i t s in
    let node : GraphNode = record { id = t.path; body = body_with n t (own n t) (parts n i) (inner n i) t.body } in
    let a = own_fine n t w in
    All-cons IsNode node (map (connector_node t) (own n t)) (p, body_writable n i t t.body w p (w.kinds.each i t s))
    (All-map IsNode (connector_node t) (own n t) (λ k d h. (extended_utf8 t.path _ p (a k d h).0, ((a k d h).1, (a k d h).2))))

-- these instances stand in the net from that number on
abbrev pub StandAt : Net → ℕ → List NetInstance → Type 0
StandAt n i ts = (j : ℕ) → slice_get n.instances (i + j) ≡ slice_get ts j

pub all_stand : (n : Net) → StandAt n 0 n.instances
all_stand n j = let z : 0 + j ≡ j = omega arith in ap (slice_get n.instances) z

pub first_stands : (n : Net) (i : ℕ) (t : NetInstance) (ts : List NetInstance) → StandAt n i (t ∷ ts) → slice_get n.instances i ≡ Some t
first_stands n i t ts s = let z : i + 0 ≡ i = omega arith in ap (slice_get n.instances) (sym z) ∙ s 0

pub rest_stand : (n : Net) (i : ℕ) (t : NetInstance) (ts : List NetInstance) → StandAt n i (t ∷ ts) → StandAt n (suc i) ts
rest_stand n i t ts s j = let q : suc i + j ≡ i + suc j = omega arith in ap (slice_get n.instances) q ∙ s (suc j)

nodes_writable : (n : Net) → IsWellFormed n → (i : ℕ) (ts : List NetInstance) → StandAt n i ts → All IsNode (nodes_from n i ts)
nodes_writable n w i [] s = All-nil IsNode
nodes_writable n w i (t ∷ ts) s =
    All-append IsNode (nodes_with n t (parts n i) (inner n i)) (nodes_from n (suc i) ts) (instance_writable n w i t (first_stands n i t ts s)) (nodes_writable n w (suc i) ts (rest_stand n i t ts s))

pub graph_writable : (n : Net) → IsWellFormed n → IsWritable (graph_of n)
graph_writable n w = nodes_writable n w 0 n.instances (all_stand n)

-- so can what was made of a net that is the same
pub writable_as : (n m : Net) (g : Graph) → g ≡ graph_of m → m ≡ n → IsWellFormed n → IsWritable g
writable_as n m g e s w = subst IsWritable (sym (e ∙ ap graph_of s)) (graph_writable n w)
