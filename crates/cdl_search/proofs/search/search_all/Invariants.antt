use Rattle.std.proofs.Common.{◌≡◌, ℕ, ◌<◌, length, get_or}
use Rattle.cdl_search.specs.Graph.{Found}
use Rattle.cdl_search.proofs.search.search_all.Given as goal

abbrev pub invariant-loop-u : goal.invariant-loop-u
invariant-loop-u l = record {
  found : Found l.first l.edges (length l.initial.s.marks.items) l.s;
  none : length l.s.starts.items ≡ 0;
  done : (v : ℕ) → v < l.u → get_or l.s.marks.items v 0 ≡ 1;
}
