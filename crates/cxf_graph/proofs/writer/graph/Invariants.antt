use Rattle.std.proofs.Common.{◌≡◌, ◌++◌, drop}
use Rattle.cxf_graph.specs.Written.{nodes_from}
use Rattle.cxf_graph.proofs.writer.graph.Given as goal

abbrev pub invariant-loop-i : goal.invariant-loop-i
invariant-loop-i l = nodes_from l.net 0 l.net.instances ≡ l.nodes ++ nodes_from l.net l.i (drop l.i l.net.instances)
