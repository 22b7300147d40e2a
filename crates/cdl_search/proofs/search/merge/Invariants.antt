use Rattle.std.proofs.Common.{vec_len}
use Rattle.cdl_search.specs.Graph.{Dropped}
use Rattle.cdl_search.proofs.search.merge.Given as goal

abbrev pub invariant-loop-s : goal.invariant-loop-s
invariant-loop-s l = Dropped l.place l.initial.s l.s

abbrev pub decreases-loop-s : goal.decreases-loop-s
decreases-loop-s l = vec_len l.s.starts
