use Rattle.std.proofs.Common.{All, take}
use Rattle.cxf_graph.specs.Document.{IsNode}
use Rattle.cxf_graph_tests.proofs.writable.are_nodes.Given as goal

abbrev pub invariant-loop-node : goal.invariant-loop-node
invariant-loop-node l = All IsNode (take l.node-index l.nodes)
