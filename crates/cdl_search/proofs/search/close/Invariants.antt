use Rattle.std.proofs.Common.{◌≡◌}
use Rattle.cdl_search.specs.Graph.{DoneFrom}
use Rattle.cdl_search.proofs.search.close.Given as goal

abbrev pub invariant-loop-p : goal.invariant-loop-p
invariant-loop-p l = record {
  held : l.s.held.items ≡ l.initial.s.held.items;
  todo : l.s.todo.items ≡ l.initial.s.todo.items;
  starts : l.s.starts.items ≡ l.initial.s.starts.items;
  owed : l.s.owed.items ≡ l.initial.s.owed.items;
  done : DoneFrom l.initial.s.held.items l.initial.s.marks.items l.s.marks.items l.initial.s.looped.items l.s.looped.items l.initial.s.order.items l.s.order.items l.start l.p l.many;
}
