use Rattle.cxf_graph.proofs.json.body_members.Goals as goal

pub composite_members-requires : goal.composite_members-requires
composite_members-requires c =
    let h = rw c.in-Composite.is at c.requires in
    record { connectors = rw c.items.ensures h.0; instances = rw c.items-in-Composite.ensures h.1; connections = rw c.items-in-Composite-2.ensures h.2 }

pub elementary_members-requires : goal.elementary_members-requires
elementary_members-requires c =
    let h = rw c.in-Elementary.is at c.requires in
    record { kind = h.0; given = rw c.items-in-Elementary.ensures h.1; connectors = rw c.items-in-Elementary-2.ensures h.2 }
