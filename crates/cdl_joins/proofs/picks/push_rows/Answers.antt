use Rattle.std.proofs.Common.{◌++◌, ◌+◌, arith, refl}
use Rattle.std.specs.List.{flat_map, range_with_len}
use Rattle.cdl_joins.specs.Picks.{behind, count}
use Rattle.cdl_joins.proofs.Rows.{rows_next}
use Rattle.cdl_joins.proofs.picks.push_rows.Goals as goal

pub loop-k-preserved : goal.loop-k-preserved
loop-k-preserved c = rows_next c.args.rows.now c.loop-k.all c.push_behind.new.all (c.args.all.now ++ flat_map (behind c.args.rows.now) (range_with_len c.args.pick.first (count c.args.pick))) c.args.pick c.loop-k.k (c.args.pick.first + c.loop-k.k)
    (omega (arith, c.loop-k-test.true, c.count-k-end.ensures)) refl c.in_ok-push_behind.ensures c.loop-k.invariant
