use Rattle.std.proofs.Common.{◌≡◌, true, arith, rules}
use Rattle.cxf_graph.specs.Document.{IsGiven}
use Rattle.cxf_graph_tests.proofs.Every.{all_done, one_more}
use Rattle.cxf_graph_tests.proofs.writable.are_given.Goals as goal

pub loop-parameter-preserved : goal.loop-parameter-preserved
loop-parameter-preserved c =
    let t : c.is_given.result ≡ true = search rules in
    let q = c.is_given.ensures t in
    one_more IsGiven c.args.given.now c.loop-parameter.parameter-index c.parameter-item.result (omega arith) c.parameter-item.is c.loop-parameter.invariant q

pub returns : goal.returns
returns c = λ _. all_done IsGiven c.args.given.now c.loop-parameter.parameter-index c.loop-parameter.invariant (omega arith)
