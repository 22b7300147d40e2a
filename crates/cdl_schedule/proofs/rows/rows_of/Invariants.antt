use Rattle.std.proofs.Common.{◌+◌, length}
use Rattle.cdl_schedule.specs.inner.Rows.{AreRows, Precedes, vertex_count}
use Rattle.cdl_schedule.proofs.rows.rows_of.Given as goal

abbrev pub invariant-loop-x : goal.invariant-loop-x
invariant-loop-x l = AreRows (Precedes l.net) (vertex_count l.net) l.x 0 l.rows.first.items l.rows.edges.items

abbrev pub invariant-loop-i : goal.invariant-loop-i
invariant-loop-i l = AreRows (Precedes l.net) (vertex_count l.net) (length l.net.elements + l.i) 0 l.rows.first.items l.rows.edges.items
