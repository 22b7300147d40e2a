-- The JSON value of a graph.
use Rattle.std.specs.Prelude.{ℕ, Bool, true, cond, List, [], ◌∷◌, codes, map, All, ◌≡◌, IsUtf8}
use Rattle.cdl_values.specs.declared.value.ValueType.{ValueType}
use Rattle.cdl_values.specs.declared.value.ValueType.TheVariants as value
use Rattle.cdl_network.specs.Rules.{is_empty}
use Rattle.cdl_connect.specs.WellFormed.{is_plain}
use Rattle.serde_json.specs.Data.{Data, null, boolean, number, string, array, object, no_items, item, Members, no_members, member, put}
use Rattle.serde_json.specs.Find.{of_integer}
use Rattle.serde_json.specs.View.{items_of}
use Rattle.cxf_graph.specs.declared.graph.Graph.{Graph}
use Rattle.cxf_graph.specs.declared.graph.GraphNode.{GraphNode}
use Rattle.cxf_graph.specs.declared.graph.NodeBody.{NodeBody}
use Rattle.cxf_graph.specs.declared.graph.NodeBody.TheVariants.{Composite, Elementary, Connector, Other}
use Rattle.cxf_graph.specs.declared.graph.Pair.{Pair}
use Rattle.cxf_graph.specs.declared.graph.Given.{Given}
use Rattle.cxf_graph.specs.declared.graph.GivenValue.{GivenValue}
use Rattle.cxf_graph.specs.declared.graph.GivenValue.TheVariants.{Item, List as Listed}
use Rattle.cxf_graph.specs.declared.graph.GivenItem.{GivenItem}
use Rattle.cxf_graph.specs.declared.graph.GivenItem.TheVariants.{Boolean, Integer, Str, Bad}

-- a reference to a node
abbrev pub reference : List ℕ → Data
reference id = object (member (codes "@id") (string id) no_members)

abbrev pub references : List (List ℕ) → Data
references ids = array (items_of (map reference ids))

-- a connection: references to its ends
abbrev pub pair_data : Pair → Data
pair_data p = array (item (reference p.left) (item (reference p.right) no_items))

abbrev pub pairs_data : List Pair → Data
pairs_data ps = array (items_of (map pair_data ps))

abbrev pub item_data : GivenItem → Data
item_data (Boolean b) = boolean b
item_data (Integer z) = number (of_integer z)
item_data (Str t) = string t
item_data Bad = null

abbrev pub value_data : GivenValue → Data
value_data (Item g) = item_data g
value_data (Listed gs) = array (items_of (map item_data gs))

-- members in byte order of their names, and these parameters among them; of two of one name the last stays
abbrev pub given_members : Members → List Given → Members
given_members ms [] = ms
given_members ms (g ∷ gs) = given_members (put g.name (value_data g.value) ms) gs

-- the `@type` of a connector
abbrev pub input_type : ValueType → List ℕ
input_type value.Boolean = codes "cdl:BooleanInput"
input_type value.Integer = codes "cdl:IntegerInput"
input_type t = codes "cdl:RealInput"

abbrev pub output_type : ValueType → List ℕ
output_type value.Boolean = codes "cdl:BooleanOutput"
output_type value.Integer = codes "cdl:IntegerOutput"
output_type t = codes "cdl:RealOutput"

abbrev pub connector_type : ValueType → Bool → List ℕ
connector_type t input = cond input (input_type t) (output_type t)

-- the member of a unit, where there is one
abbrev pub unit_member : List ℕ → Members
unit_member unit = cond (is_empty unit) no_members (member (codes "cdl:unit") (string unit) no_members)

-- the members of a node behind its `@id`
abbrev pub body_members : NodeBody → Members
body_members (Composite connectors instances connections) =
    member (codes "@type") (string (codes "cdl:Composite"))
    (member (codes "cdl:connections") (pairs_data connections)
    (member (codes "cdl:connectors") (references connectors)
    (member (codes "cdl:instances") (references instances) no_members)))
body_members (Elementary kind given connectors) =
    member (codes "@type") (string (codes "cdl:Elementary"))
    (member (codes "cdl:connectors") (references connectors)
    (member (codes "cdl:kind") (string kind)
    (member (codes "cdl:parameters") (object (given_members no_members given)) no_members)))
body_members (Connector kind input unit) = member (codes "@type") (string (connector_type kind input)) (unit_member unit)
body_members Other = no_members

abbrev pub node_data : GraphNode → Data
node_data n = object (member (codes "@id") (string n.id) (body_members n.body))

-- the document of a graph, with members in byte order of their names
abbrev pub document : Graph → Data
document g =
    object (member (codes "@context") (object (member (codes "cdl") (string (codes "urn:cdl-cxf-profile:2")) no_members))
    (member (codes "@graph") (array (items_of (map node_data g.nodes))) no_members))

-- What can be written: all texts are UTF-8, each item is one, each connector is Boolean, Integer or Real, and each node is of the profile.
abbrev pub IsItem : GivenItem → Type 0
IsItem (Boolean b) = Unit {0}
IsItem (Integer z) = Unit {0}
IsItem (Str t) = IsUtf8 t
IsItem Bad = ⊥

abbrev pub IsValue : GivenValue → Type 0
IsValue (Item g) = IsItem g
IsValue (Listed gs) = All IsItem gs

abbrev pub IsGiven : Given → Type 0
IsGiven g = IsUtf8 g.name × IsValue g.value

abbrev pub IsPair : Pair → Type 0
IsPair p = IsUtf8 p.left × IsUtf8 p.right

abbrev pub IsBody : NodeBody → Type 0
IsBody (Composite connectors instances connections) = All IsUtf8 connectors × All IsUtf8 instances × All IsPair connections
IsBody (Elementary kind given connectors) = IsUtf8 kind × All IsGiven given × All IsUtf8 connectors
IsBody (Connector kind input unit) = (is_plain kind ≡ true) × IsUtf8 unit
IsBody Other = ⊥

abbrev pub IsNode : GraphNode → Type 0
IsNode n = IsUtf8 n.id × IsBody n.body

abbrev pub IsWritable : Graph → Type 0
IsWritable g = All IsNode g.nodes
