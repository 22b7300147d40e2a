use Rattle.std.proofs.Common.{◌≡◌, ◌++◌, take}
use Rattle.cdl_joins.specs.Picks as spec
use Rattle.cdl_joins.proofs.picks.push_behind.Given as goal

abbrev pub invariant-loop-i : goal.invariant-loop-i
invariant-loop-i l = l.all ≡ l.fn.all ++ spec.behind (take l.i l.rows) l.first
