use Rattle.std.proofs.Common.{◌≡◌, ◌++◌, take}
use Rattle.cdl_joins.proofs.sides.push_sizes.Given as goal

abbrev pub invariant-loop-size : goal.invariant-loop-size
invariant-loop-size l = l.all ≡ l.fn.all ++ take l.size-index l.sizes
