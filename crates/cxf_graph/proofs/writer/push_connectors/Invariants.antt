use Rattle.std.proofs.Common.{◌≡◌, ◌++◌, map, take}
use Rattle.cxf_graph.specs.Written.{connector_node}
use Rattle.cxf_graph.proofs.writer.push_connectors.Given as goal

abbrev pub invariant-loop-element : goal.invariant-loop-element
invariant-loop-element l = l.nodes ≡ l.initial.nodes ++ map (connector_node l.instance) (take l.element-index l.elements)
