-- The graph of a net.
use Rattle.std.specs.Prelude.{ℕ, suc, ◌==◌, ◌<◌, cond, length, List, [], ◌∷◌, ◌++◌, map, filter, take, drop, Option, Some, None, slice_get}
use Rattle.cdl_decimal.specs.Canon.{canon}
use Rattle.cdl_values.specs.declared.value.Array.{Array}
use Rattle.cdl_values.specs.declared.value.Value.{Value}
use Rattle.cdl_values.specs.declared.value.Value.TheVariants as value
use Rattle.cdl_values.specs.Values.{first}
use Rattle.cdl_kinds.specs.Names.{kind_name}
use Rattle.cdl_kinds.specs.Parameters.{parameters}
use Rattle.cdl_kinds.specs.Table.{ParameterRow}
use Rattle.cdl_network.specs.Rules.{is_empty, is_some_same, sink_of, source_of}
use Rattle.cdl_connect.specs.declared.net.Net.{Net}
use Rattle.cdl_connect.specs.declared.net.NetInstance.{NetInstance}
use Rattle.cdl_connect.specs.declared.net.NetElement.{NetElement}
use Rattle.cdl_connect.specs.declared.net.RawWire.{RawWire}
use Rattle.cdl_connect.specs.declared.net.Body.{Body}
use Rattle.cdl_connect.specs.declared.net.Body.TheVariants as block
use Rattle.cdl_connect.specs.Nets.{element, network_of, wire_in}
use Rattle.cdl_connect.specs.Paths.{extended}
use Rattle.cdl_connect.specs.WellFormed.{path_of}
use Rattle.cxf_graph.specs.declared.graph.Graph.{Graph}
use Rattle.cxf_graph.specs.declared.graph.GraphNode.{GraphNode}
use Rattle.cxf_graph.specs.declared.graph.NodeBody.{NodeBody}
use Rattle.cxf_graph.specs.declared.graph.NodeBody.TheVariants.{Composite, Elementary, Connector}
use Rattle.cxf_graph.specs.declared.graph.Pair.{Pair}
use Rattle.cxf_graph.specs.declared.graph.Given.{Given}
use Rattle.cxf_graph.specs.declared.graph.GivenValue.{GivenValue}
use Rattle.cxf_graph.specs.declared.graph.GivenValue.TheVariants.{Item, List as Listed}
use Rattle.cxf_graph.specs.declared.graph.GivenItem.{GivenItem}
use Rattle.cxf_graph.specs.declared.graph.GivenItem.TheVariants.{Boolean, Integer, Str, Bad}

-- an item of a value: a Real is its canonical text
abbrev pub given_item : Value → GivenItem
given_item (value.Boolean b) = Boolean b
given_item (value.Integer z) = Integer z
given_item (value.Real c) = Str (canon c)
given_item (value.Str t) = Str t
given_item (value.Enumeration c o) = Bad

-- a scalar is one item
abbrev pub given_value : Array → GivenValue
given_value a = cond (is_empty a.shape) (Item (first given_item Bad a.items)) (Listed (map given_item a.items))

-- a parameter and its value
abbrev pub given_in : ParameterRow → Option Array → List Given
given_in r None = []
given_in r (Some a) = record { name = r.name; value = given_value a } ∷ []

-- these parameters and their values, of which the first has that number
abbrev pub given_all : List Array → ℕ → List ParameterRow → List Given
given_all v i [] = []
given_all v i (r ∷ rs) = given_in r (slice_get v i) ++ given_all v (suc i) rs

-- the connector elements of an instance
abbrev pub own : Net → NetInstance → List NetElement
own n t = take t.count (drop t.first n.elements)

-- the instances that are parts of the one of that number
abbrev pub parts : Net → ℕ → List NetInstance
parts n i = filter (λ t. is_some_same (λ p q. p == q) i t.parent) n.instances

-- the wires that stand in the instance of that number
abbrev pub inner : Net → ℕ → List RawWire
inner n i = filter (λ w. w.scope == i) n.wires

-- the `@id` of an instance's connector element
abbrev pub own_id : NetInstance → NetElement → List ℕ
own_id t e = extended t.path e.name

-- the `@id` of the element of that number
abbrev pub element_id : Net → ℕ → List ℕ
element_id n x = extended (path_of n (element n x).instance) (element n x).name

-- a wire, its source first
abbrev pub connection : Net → RawWire → Pair
connection n w = record { left = element_id n (source_of (network_of n) (wire_in w)); right = element_id n (sink_of (network_of n) (wire_in w)) }

-- what the node of an instance is, from its connector elements, its parts and the wires that stand in it
abbrev pub body_with : Net → NetInstance → List NetElement → List NetInstance → List RawWire → Body → NodeBody
body_with n t es ts ws block.Composite = Composite (map (own_id t) es) (map (λ p. p.path) ts) (map (connection n) ws)
body_with n t es ts ws (block.Elementary k p) = Elementary (kind_name k) (given_all p 0 (parameters k)) (map (own_id t) es)

abbrev pub connector_node : NetInstance → NetElement → GraphNode
connector_node t e = record { id = own_id t e; body = Connector e.value_type e.input e.unit }

-- the node of an instance, and then those of its connector elements
abbrev pub nodes_with : Net → NetInstance → List NetInstance → List RawWire → List GraphNode
nodes_with n t ts ws = record { id = t.path; body = body_with n t (own n t) ts ws t.body } ∷ map (connector_node t) (own n t)

-- the nodes of these instances, of which the first has that number
abbrev pub nodes_from : Net → ℕ → List NetInstance → List GraphNode
nodes_from n i [] = []
nodes_from n i (t ∷ ts) = nodes_with n t (parts n i) (inner n i) ++ nodes_from n (suc i) ts

-- the graph of a net: its instances in order
abbrev pub graph_of : Net → Graph
graph_of n = record { nodes = nodes_from n 0 n.instances }

-- the ends of a wire are elements of the net
abbrev pub HasEnds : Net → RawWire → Type 0
HasEnds n w = (w.left < length n.elements) × (w.right < length n.elements)
