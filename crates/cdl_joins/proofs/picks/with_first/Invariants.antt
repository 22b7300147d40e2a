use Rattle.std.proofs.Common.{◌≡◌, ◌∷◌, take}
use Rattle.cdl_joins.proofs.picks.with_first.Given as goal

abbrev pub invariant-loop-index : goal.invariant-loop-index
invariant-loop-index l = l.indices ≡ l.first ∷ take l.index-index l.rest
