use Rattle.cxf_graph_tests.proofs.writable.is_body.Goals as goal

pub returns-in-Composite : goal.returns-in-Composite
returns-in-Composite c = λ h.
    let p = c.is_composite.ensures h in
    let q = rw (c.items.ensures, c.items-in-Composite.ensures, c.items-in-Composite-2.ensures) at p in
    rw c.in-Composite.is q

pub returns-in-Elementary : goal.returns-in-Elementary
returns-in-Elementary c = λ h.
    let p = c.is_elementary.ensures h in
    let q = rw (c.bytes.ensures, c.items-in-Elementary.ensures, c.items-in-Elementary-2.ensures) at p in
    rw c.in-Elementary.is q
