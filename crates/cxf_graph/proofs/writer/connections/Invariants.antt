use Rattle.std.proofs.Common.{◌≡◌, map, take}
use Rattle.cxf_graph.specs.Written.{connection}
use Rattle.cxf_graph.proofs.writer.connections.Given as goal

abbrev pub invariant-loop-wire : goal.invariant-loop-wire
invariant-loop-wire l = l.pairs ≡ map (connection l.net) (map (λ w. w.now) (take l.wire-index l.wires))
