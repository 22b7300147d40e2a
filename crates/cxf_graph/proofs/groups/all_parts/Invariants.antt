use Rattle.std.proofs.Common.{◌≡◌, ◌<◌, ◌==◌, ℕ, [], filter, get_or, length, map, take}
use Rattle.cdl_network.specs.Rules.{is_some_same}
use Rattle.cxf_graph.proofs.groups.all_parts.Given as goal

abbrev pub invariant-loop-k : goal.invariant-loop-k
invariant-loop-k l = (length l.lists.items ≡ length l.net.instances) × ((i : ℕ) → i < length l.net.instances → map (λ t. t.now) (get_or l.lists.items i []) ≡ filter (λ t. is_some_same (λ p q. p == q) i t.parent) (take l.k l.net.instances))
