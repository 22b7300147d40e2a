-- Which JSON values are which graphs: what reading a document means. Members that don't begin with `cdl:` have no part, but for `@id` and `@type`.
use Rattle.std.specs.Prelude.{ℕ, ℤ, ◌≡◌, ◌≤◌, Bool, true, false, cond, List, [], ◌∷◌, Option, Some, None, codes, length, map, nat_eq}
use Rattle.std.specs.List.{starts_with}
use Rattle.cdl_source.specs.declared.limits.TheConstants.{LONGEST_UNIT}
use Rattle.cdl_values.specs.declared.value.ValueType.{ValueType}
use Rattle.cdl_network.specs.Lists.{Apart}
use Rattle.cdl_network.specs.Rules.{is_empty, is_real}
use Rattle.cdl_connect.specs.WellFormed.{is_plain}
use Rattle.serde_json.specs.Data.{Data, boolean, number, string, array, object, Items, no_items, item, Members, no_members, member}
use Rattle.serde_json.specs.Find.{as_i64, get, get_member}
use Rattle.cxf_graph.specs.declared.graph.Graph.{Graph}
use Rattle.cxf_graph.specs.declared.graph.GraphNode.{GraphNode}
use Rattle.cxf_graph.specs.declared.graph.NodeBody.{NodeBody}
use Rattle.cxf_graph.specs.declared.graph.NodeBody.TheVariants.{Composite, Elementary, Connector, Other}
use Rattle.cxf_graph.specs.declared.graph.Pair.{Pair}
use Rattle.cxf_graph.specs.declared.graph.Given.{Given}
use Rattle.cxf_graph.specs.declared.graph.GivenValue.{GivenValue}
use Rattle.cxf_graph.specs.declared.graph.GivenValue.TheVariants.{Item, List as Listed}
use Rattle.cxf_graph.specs.declared.graph.GivenItem.{GivenItem}
use Rattle.cxf_graph.specs.declared.graph.GivenItem.TheVariants.{Boolean, Integer, Str, Bad}
use Rattle.cxf_graph.specs.Document.{connector_type, given_members}

abbrev pub is_own_name : List ℕ → Bool
is_own_name name = starts_with nat_eq name (codes "cdl:")

-- the members of the profile's own names
abbrev pub own_members : Members → Members
own_members no_members = no_members
own_members (member k d ms) = cond (is_own_name k) (member k d (own_members ms)) (own_members ms)

-- the value is a reference to this node
abbrev pub IsReference : Data → List ℕ → Type 0
IsReference d id = get (codes "@id") d ≡ Some (string id)

abbrev pub AreReferences : Items → List (List ℕ) → Type 0
AreReferences no_items [] = Unit {0}
AreReferences (item d ds) (id ∷ ids) = IsReference d id × AreReferences ds ids
AreReferences _ _ = ⊥

abbrev pub ArePairs : Items → List Pair → Type 0
ArePairs no_items [] = Unit {0}
ArePairs (item (array (item left (item right no_items))) ds) (p ∷ ps) = IsReference left p.left × IsReference right p.right × ArePairs ds ps
ArePairs _ _ = ⊥

abbrev pub integer_or_bad : Option ℤ → GivenItem
integer_or_bad None = Bad
integer_or_bad (Some z) = Integer z

abbrev pub item_of : Data → GivenItem
item_of (boolean b) = Boolean b
item_of (number n) = integer_or_bad (as_i64 n)
item_of (string s) = Str s
item_of d = Bad

abbrev pub items_in : Items → List GivenItem
items_in no_items = []
items_in (item d ds) = item_of d ∷ items_in ds

abbrev pub value_of : Data → GivenValue
value_of (array ds) = Listed (items_in ds)
value_of d = Item (item_of d)

-- the parameters that an object gives, in byte order of their names
abbrev pub given_of : Members → List Given
given_of no_members = []
given_of (member k d ms) = record { name = k; value = value_of d } ∷ given_of ms

-- the unit that a connector's own members give: in version 2 a Real may have one
pub data IsUnit (version : ℕ) (t : ValueType) : Members → List ℕ → Type 0 where
  none : IsUnit version t no_members []
  some : (unit : List ℕ) → version ≡ 2 → is_real t ≡ true → length unit ≤ LONGEST_UNIT → IsUnit version t (member (codes "cdl:unit") (string unit) no_members) unit

-- the `@type` and the own members of a node give this body
pub data IsBodyOf (version : ℕ) : List ℕ → Members → NodeBody → Type 0 where
  composite : (connections connectors instances : Items) (ps : List Pair) (cs is : List (List ℕ)) → ArePairs connections ps → AreReferences connectors cs → AreReferences instances is
      → IsBodyOf version (codes "cdl:Composite") (member (codes "cdl:connections") (array connections) (member (codes "cdl:connectors") (array connectors) (member (codes "cdl:instances") (array instances) no_members))) (Composite cs is ps)
  elementary : (connectors : Items) (kind : List ℕ) (parameters : Members) (cs : List (List ℕ)) → AreReferences connectors cs
      → IsBodyOf version (codes "cdl:Elementary") (member (codes "cdl:connectors") (array connectors) (member (codes "cdl:kind") (string kind) (member (codes "cdl:parameters") (object parameters) no_members))) (Elementary kind (given_of parameters) cs)
  connector : (t : ValueType) (input : Bool) (ms : Members) (unit : List ℕ) → is_plain t ≡ true → IsUnit version t ms unit
      → IsBodyOf version (connector_type t input) ms (Connector t input unit)
  other : (sort : List ℕ) (ms : Members) → is_own_name sort ≡ false → IsBodyOf version sort ms Other

pub record IsNodeOf (version : ℕ) (d : Data) (n : GraphNode) : Type 0 where
  pub members : Members
  pub is_object : d ≡ object members
  pub id : get_member (codes "@id") members ≡ Some (string n.id)
  pub sort : List ℕ
  pub sorted : get_member (codes "@type") members ≡ Some (string sort)
  pub body : IsBodyOf version sort (own_members members) n.body

abbrev pub AreNodesOf : ℕ → Items → List GraphNode → Type 0
AreNodesOf version no_items [] = Unit {0}
AreNodesOf version (item d ds) (n ∷ ns) = IsNodeOf version d n × AreNodesOf version ds ns
AreNodesOf version _ _ = ⊥

-- the version that a context names
pub data IsVersion : ℕ → List ℕ → Type 0 where
  first : IsVersion 1 (codes "urn:cdl-cxf-profile:1")
  second : IsVersion 2 (codes "urn:cdl-cxf-profile:2")

-- The value is a document of this graph: its context names a version, each item of `@graph` is a node of it, and no two have one `@id`.
pub record IsGraphOf (d : Data) (g : Graph) : Type 0 where
  pub context : Data
  pub has_context : get (codes "@context") d ≡ Some context
  pub version : ℕ
  pub name : List ℕ
  pub named : get (codes "cdl") context ≡ Some (string name)
  pub is_version : IsVersion version name
  pub items : Items
  pub has_items : get (codes "@graph") d ≡ Some (array items)
  pub nodes : AreNodesOf version items g.nodes
  pub apart : Apart (map (λ n. n.id) g.nodes)

-- a graph with the parameters of each block in byte order of their names, as its document has them
abbrev pub body_in_order : NodeBody → NodeBody
body_in_order (Composite connectors instances connections) = Composite connectors instances connections
body_in_order (Elementary kind given connectors) = Elementary kind (given_of (given_members no_members given)) connectors
body_in_order (Connector kind input unit) = Connector kind input unit
body_in_order Other = Other

abbrev pub node_in_order : GraphNode → GraphNode
node_in_order n = record { id = n.id; body = body_in_order n.body }

abbrev pub in_order : Graph → Graph
in_order g = record { nodes = map node_in_order g.nodes }

-- the node is of the profile, and only a Real has a unit, of at most 64 bytes
abbrev pub IsFineBody : NodeBody → Type 0
IsFineBody (Composite connectors instances connections) = Unit {0}
IsFineBody (Elementary kind given connectors) = Unit {0}
IsFineBody (Connector kind input unit) = (is_plain kind ≡ true) × (is_empty unit ≡ false → is_real kind ≡ true) × (length unit ≤ LONGEST_UNIT)
IsFineBody Other = ⊥

abbrev pub AreFine : List GraphNode → Type 0
AreFine [] = Unit {0}
AreFine (n ∷ ns) = IsFineBody n.body × AreFine ns
