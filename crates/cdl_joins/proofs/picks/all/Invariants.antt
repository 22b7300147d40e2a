use Rattle.std.proofs.Common.{◌≡◌, take, map}
use Rattle.cdl_joins.specs.Picks as spec
use Rattle.cdl_joins.proofs.picks.all.Given as goal

abbrev pub invariant-loop-size : goal.invariant-loop-size
invariant-loop-size l = l.picks ≡ map spec.whole (take l.size-index l.sizes)
