use Rattle.std.proofs.Common.{◌≡◌, ◌++◌}
use Rattle.std.specs.List.{flat_map, range_with_len}
use Rattle.cdl_joins.specs.Picks as spec
use Rattle.cdl_joins.proofs.Rows.{ahead}
use Rattle.cdl_joins.proofs.picks.push_rows.Given as goal

abbrev pub invariant-loop-k : goal.invariant-loop-k
invariant-loop-k l = l.all ++ ahead l.rows l.pick l.k ≡ l.fn.all ++ flat_map (spec.behind l.rows) (range_with_len l.pick.first (spec.count l.pick))
