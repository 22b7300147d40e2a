-- A written document reads as its graph.
use Rattle.std.proofs.Common.{◌≡◌, ◌≤◌, ℕ, List, [], ◌∷◌, true, false, codes, length, map, refl, ap, Some}
use Rattle.cdl_source.specs.declared.limits.TheConstants.{LONGEST_UNIT}
use Rattle.cdl_values.specs.declared.value.ValueType.{ValueType}
use Rattle.cdl_network.specs.Lists.{Apart}
use Rattle.cdl_network.specs.Rules.{is_empty, is_real}
use Rattle.serde_json.specs.Data.{no_members, member, string, object}
use Rattle.serde_json.specs.Find.{get_member}
use Rattle.serde_json.specs.View.{items_of}
use Rattle.cxf_graph.specs.declared.graph.Graph.{Graph}
use Rattle.cxf_graph.specs.declared.graph.GraphNode.{GraphNode}
use Rattle.cxf_graph.specs.declared.graph.NodeBody.{NodeBody}
use Rattle.cxf_graph.specs.declared.graph.NodeBody.TheVariants.{Composite, Elementary, Connector, Other}
use Rattle.cxf_graph.specs.declared.graph.Pair.{Pair}
use Rattle.cxf_graph.specs.Document.{body_members, connector_type, document, given_members, node_data, pair_data, reference, unit_member}
use Rattle.cxf_graph.specs.Reading.{AreFine, AreNodesOf, ArePairs, AreReferences, IsBodyOf, IsFineBody, IsGraphOf, IsNodeOf, IsUnit, body_in_order, composite, connector, elementary, in_order, node_in_order, none, own_members, second, some}

references_back : (ids : List (List ℕ)) → AreReferences (items_of (map reference ids)) ids
references_back [] = tt
references_back (id ∷ ids) = (refl, references_back ids)

pairs_back : (ps : List Pair) → ArePairs (items_of (map pair_data ps)) ps
pairs_back [] = tt
pairs_back (p ∷ ps) = (refl, refl, pairs_back ps)

unit_back : (t : ValueType) (u : List ℕ) → (is_empty u ≡ false → is_real t ≡ true) → length u ≤ LONGEST_UNIT → IsUnit 2 t (own_members (unit_member u)) u
unit_back t [] r l = none
unit_back t (c ∷ cs) r l = some (c ∷ cs) refl (r refl) l

-- the `@type` of a node
abbrev sort_of : NodeBody → List ℕ
sort_of (Composite connectors instances connections) = codes "cdl:Composite"
sort_of (Elementary kind given connectors) = codes "cdl:Elementary"
sort_of (Connector kind input unit) = connector_type kind input
sort_of Other = []

sort_back : (b : NodeBody) → IsFineBody b → get_member (codes "@type") (body_members b) ≡ Some (string (sort_of b))
sort_back (Composite connectors instances connections) f = refl
sort_back (Elementary kind given connectors) f = refl
sort_back (Connector kind input unit) f = refl
sort_back Other f = absurd f

body_back : (b : NodeBody) → IsFineBody b → IsBodyOf 2 (sort_of b) (own_members (body_members b)) (body_in_order b)
body_back (Composite connectors instances connections) f = composite (items_of (map pair_data connections)) (items_of (map reference connectors)) (items_of (map reference instances)) connections connectors instances (pairs_back connections) (references_back connectors) (references_back instances)
body_back (Elementary kind given connectors) f = elementary (items_of (map reference connectors)) kind (given_members no_members given) connectors (references_back connectors)
body_back (Connector kind input unit) f = connector kind input (own_members (unit_member unit)) unit f.0 (unit_back kind unit f.1 f.2)
body_back Other f = absurd f

node_back : (n : GraphNode) → IsFineBody n.body → IsNodeOf 2 (node_data n) (node_in_order n)
node_back n f = record {
  members = member (codes "@id") (string n.id) (body_members n.body);
  is_object = refl;
  id = refl;
  sort = sort_of n.body;
  sorted = sort_back n.body f;
  body = body_back n.body f;
}

nodes_back : (ns : List GraphNode) → AreFine ns → AreNodesOf 2 (items_of (map node_data ns)) (map node_in_order ns)
nodes_back [] f = tt
nodes_back (n ∷ ns) f = (node_back n f.0, nodes_back ns f.1)

ids_back : (ns : List GraphNode) → map (λ n. n.id) (map node_in_order ns) ≡ map (λ n. n.id) ns
ids_back [] = refl
ids_back (n ∷ ns) = ap (λ ids. n.id ∷ ids) (ids_back ns)

pub graph_back : (g : Graph) → AreFine g.nodes → Apart (map (λ n. n.id) g.nodes) → IsGraphOf (document g) (in_order g)
graph_back g f a = record {
  context = object (member (codes "cdl") (string (codes "urn:cdl-cxf-profile:2")) no_members);
  has_context = refl;
  version = 2;
  name = codes "urn:cdl-cxf-profile:2";
  named = refl;
  is_version = second;
  items = items_of (map node_data g.nodes);
  has_items = refl;
  nodes = nodes_back g.nodes f;
  apart = rw (ids_back g.nodes) a;
}
