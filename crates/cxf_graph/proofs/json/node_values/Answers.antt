use Rattle.std.proofs.Common.{arith}
use Rattle.cxf_graph.specs.Document.{IsNode}
use Rattle.cxf_graph.proofs.Each.{all_at}
use Rattle.cxf_graph.proofs.json.node_values.Goals as goal

pub node_value-requires : goal.node_value-requires
node_value-requires c = all_at IsNode c.args.nodes.now c.loop-node.node-index c.node-item.result c.requires (omega arith) c.node-item.is
