use Rattle.std.proofs.Common.{◌≡◌, true, arith, rules}
use Rattle.cxf_graph.specs.Document.{IsPair}
use Rattle.cxf_graph_tests.proofs.Every.{all_done, one_more}
use Rattle.cxf_graph_tests.proofs.writable.are_pairs.Goals as goal

pub loop-pair-preserved : goal.loop-pair-preserved
loop-pair-preserved c =
    let t : c.is_pair.result ≡ true = search rules in
    let q = c.is_pair.ensures t in
    one_more IsPair c.args.pairs.now c.loop-pair.pair-index c.pair-item.result (omega arith) c.pair-item.is c.loop-pair.invariant q

pub returns : goal.returns
returns c = λ _. all_done IsPair c.args.pairs.now c.loop-pair.pair-index c.loop-pair.invariant (omega arith)
