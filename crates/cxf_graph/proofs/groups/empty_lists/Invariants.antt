use Rattle.std.proofs.Common.{◌≡◌, ℕ, [], get_or, length}
use Rattle.cxf_graph.proofs.groups.empty_lists.Given as goal

abbrev pub invariant-loop : goal.invariant-loop
invariant-loop g l = (length l.lists.items ≡ l.counter) × ((i : ℕ) → get_or l.lists.items i [] ≡ [])
