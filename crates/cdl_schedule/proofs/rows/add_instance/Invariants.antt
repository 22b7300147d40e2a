use Rattle.std.proofs.Common.{◌+◌, length}
use Rattle.cdl_schedule.specs.inner.Rows.{AreRows, Precedes, vertex_count}
use Rattle.cdl_schedule.proofs.rows.add_instance.Given as goal

abbrev pub invariant-loop-x : goal.invariant-loop-x
invariant-loop-x l = AreRows (Precedes l.net) (vertex_count l.net) (length l.net.elements + l.i) l.x l.rows.first.items l.rows.edges.items
