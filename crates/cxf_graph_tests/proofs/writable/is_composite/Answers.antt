use Rattle.std.proofs.Common.{◌≡◌, true, rules}
use Rattle.cxf_graph_tests.proofs.writable.is_composite.Goals as goal

pub returns : goal.returns
returns c = λ h.
    let a : c.are_texts.result ≡ true = search rules in
    let b : c.are_texts-2.result ≡ true = search rules in
    (c.are_texts.ensures a, c.are_texts-2.ensures b, c.are_pairs.ensures h)
