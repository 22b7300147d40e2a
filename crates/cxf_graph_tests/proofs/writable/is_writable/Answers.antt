use Rattle.cxf_graph_tests.proofs.writable.is_writable.Goals as goal

pub returns : goal.returns
returns c = λ h.
    let p = c.are_nodes.ensures h in
    rw c.items.ensures at p
