use Rattle.std.proofs.Common.{◌≡◌, ℕ, length, get_or}
use Rattle.cdl_search.specs.Graph.{Found, work}
use Rattle.cdl_search.proofs.search.search_from.Given as goal

abbrev pub invariant-loop-s : goal.invariant-loop-s
invariant-loop-s l = record {
  found : Found l.first l.edges (length l.initial.s.marks.items) l.s;
  seen : get_or l.s.marks.items l.fn.u 0 ≡ 0 → ⊥;
  kept : (v : ℕ) → get_or l.initial.s.marks.items v 0 ≡ 1 → get_or l.s.marks.items v 0 ≡ 1;
}

abbrev pub decreases-loop-s : goal.decreases-loop-s
decreases-loop-s l = work l.edges l.s
