use Rattle.std.proofs.Common.{arith}
use Rattle.cxf_graph.proofs.Each.{ends_at}
use Rattle.cxf_graph.proofs.writer.connections.Goals as goal

pub connection-requires-clause-ends : goal.connection-requires-clause-ends
connection-requires-clause-ends c = ends_at c.args.net.now c.args.wires.now c.loop-wire.wire-index _ c.requires.ends (omega arith)
