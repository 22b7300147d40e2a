use Rattle.std.proofs.Common.{◌≡◌, true, arith, rules}
use Rattle.cxf_graph.specs.Document.{IsItem}
use Rattle.cxf_graph_tests.proofs.Every.{all_done, one_more}
use Rattle.cxf_graph_tests.proofs.writable.are_items.Goals as goal

pub loop-item-preserved : goal.loop-item-preserved
loop-item-preserved c =
    let t : c.is_item.result ≡ true = search rules in
    let q = c.is_item.ensures t in
    one_more IsItem c.args.items.now c.loop-item.item-index c.item-item.result (omega arith) c.item-item.is c.loop-item.invariant q

pub returns : goal.returns
returns c = λ _. all_done IsItem c.args.items.now c.loop-item.item-index c.loop-item.invariant (omega arith)
