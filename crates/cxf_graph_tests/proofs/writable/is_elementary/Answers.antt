use Rattle.std.proofs.Common.{◌≡◌, true, rules}
use Rattle.cxf_graph_tests.proofs.writable.is_elementary.Goals as goal

pub returns : goal.returns
returns c = λ h.
    let a : c.is_text.result ≡ true = search rules in
    let b : c.are_given.result ≡ true = search rules in
    (c.is_text.ensures a, c.are_given.ensures b, c.are_texts.ensures h)
