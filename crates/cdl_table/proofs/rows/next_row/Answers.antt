use Rattle.cdl_table.proofs.RowFacts.{explains-memory, gave-next}
use Rattle.cdl_table.proofs.rows.next_row.Goals as goal

pub memory_of-requires : goal.memory_of-requires
memory_of-requires c = rw c.into_kind.ensures (explains-memory c.args.rows.now c.read_byte_record.new.self c.in-Err.e.kind c.requires.0 (c.in-Err.ensures.why c.requires.1))

pub returns-in-Ok : goal.returns-in-Ok
returns-in-Ok c = λ rest g.
    let reads = c.in-Ok.ensures in
    gave-next _ _ _ _ rest g (reads.ready g.untrimmed) reads.flexible (reads.reads g.untrimmed g.ready)
