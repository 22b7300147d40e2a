use Rattle.std.proofs.Common.{IsUtf8, ◌≡◌, true, arith, rules}
use Rattle.cxf_graph_tests.proofs.Every.{all_done, one_more}
use Rattle.cxf_graph_tests.proofs.writable.are_texts.Goals as goal

pub loop-text-preserved : goal.loop-text-preserved
loop-text-preserved c =
    let t : c.is_text.result ≡ true = search rules in
    let p = c.is_text.ensures t in
    let q = rw c.bytes.ensures at p in
    one_more IsUtf8 c.args.texts.now c.loop-text.text-index c.text-item.result (omega arith) c.text-item.is c.loop-text.invariant q

pub returns : goal.returns
returns c = λ _. all_done IsUtf8 c.args.texts.now c.loop-text.text-index c.loop-text.invariant (omega arith)
