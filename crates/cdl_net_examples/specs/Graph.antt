-- The graph of the block that negates its input, written out.
use Prim.Native.String.{String}
use Rattle.std.specs.Prelude.{true, false, [], ◌∷◌, codes}
use Rattle.cdl_values.specs.declared.value.ValueType.TheVariants.{Boolean}
use Rattle.cxf_graph.specs.declared.graph.Graph.{Graph}
use Rattle.cxf_graph.specs.declared.graph.GraphNode.{GraphNode}
use Rattle.cxf_graph.specs.declared.graph.NodeBody.{NodeBody}
use Rattle.cxf_graph.specs.declared.graph.NodeBody.TheVariants.{Composite, Elementary, Connector}
use Rattle.cxf_graph.specs.declared.graph.Pair.{Pair}

abbrev pub node : String → NodeBody → GraphNode
node id body = record { id = codes id; body = body }

abbrev pub connection : String → String → Pair
connection source sink = record { left = codes source; right = codes sink }

abbrev pub negation_graph : Graph
negation_graph = record {
  nodes =
      node "#" (Composite (codes "#u" ∷ codes "#y" ∷ []) (codes "#n" ∷ []) (connection "#u" "#n.u" ∷ connection "#n.y" "#y" ∷ []))
      ∷ node "#u" (Connector Boolean true [])
      ∷ node "#y" (Connector Boolean false [])
      ∷ node "#n" (Elementary (codes "Logical.Not") [] (codes "#n.u" ∷ codes "#n.y" ∷ []))
      ∷ node "#n.u" (Connector Boolean true [])
      ∷ node "#n.y" (Connector Boolean false [])
      ∷ [];
}
