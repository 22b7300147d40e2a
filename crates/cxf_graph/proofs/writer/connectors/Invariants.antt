use Rattle.std.proofs.Common.{◌≡◌, map, take}
use Rattle.cxf_graph.specs.Written.{own_id}
use Rattle.cxf_graph.proofs.writer.connectors.Given as goal

abbrev pub invariant-loop-element : goal.invariant-loop-element
invariant-loop-element l = l.ids ≡ map (own_id l.instance) (take l.element-index l.elements)
