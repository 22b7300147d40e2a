use Rattle.std.proofs.Common.{◌≡◌, true, arith, rules}
use Rattle.cxf_graph.specs.Document.{IsNode}
use Rattle.cxf_graph_tests.proofs.Every.{all_done, one_more}
use Rattle.cxf_graph_tests.proofs.writable.are_nodes.Goals as goal

pub loop-node-preserved : goal.loop-node-preserved
loop-node-preserved c =
    let t : c.is_node.result ≡ true = search rules in
    let q = c.is_node.ensures t in
    one_more IsNode c.args.nodes.now c.loop-node.node-index c.node-item.result (omega arith) c.node-item.is c.loop-node.invariant q

pub returns : goal.returns
returns c = λ _. all_done IsNode c.args.nodes.now c.loop-node.node-index c.loop-node.invariant (omega arith)
