use Rattle.std.proofs.Common.{◌≡◌, ◌<◌, ◌==◌, ℕ, [], filter, get_or, length, map, take}
use Rattle.cxf_graph.proofs.groups.all_wires.Given as goal

abbrev pub invariant-loop-k : goal.invariant-loop-k
invariant-loop-k l = (length l.lists.items ≡ length l.net.instances) × ((i : ℕ) → i < length l.net.instances → map (λ w. w.now) (get_or l.lists.items i []) ≡ filter (λ w. w.scope == i) (take l.k l.net.wires))
