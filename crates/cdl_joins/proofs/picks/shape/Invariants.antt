use Rattle.std.proofs.Common.{◌≡◌, ◌++◌, drop}
use Rattle.cdl_joins.specs.Picks as spec
use Rattle.cdl_joins.proofs.picks.shape.Given as goal

abbrev pub invariant-loop-pick : goal.invariant-loop-pick
invariant-loop-pick l = l.sizes ++ spec.shape (drop l.pick-index l.picks) ≡ spec.shape l.picks
