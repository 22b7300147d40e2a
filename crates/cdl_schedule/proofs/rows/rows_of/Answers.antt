use Rattle.std.proofs.Common.{ap, length}
use Rattle.cdl_schedule.proofs.Causes.{rows_of_instances, rows_whole}
use Rattle.cdl_schedule.proofs.rows.rows_of.Goals as goal

pub returns : goal.returns
returns c = rows_whole c.args.net.now c.loop-i.i (length c.items-i-end.result.now) _ _ c.loop-i.invariant c.loop-i.auto.i-end c.loop-i-test.false (ap length c.items-i-end.ensures)

pub loop-i-init : goal.loop-i-init
loop-i-init c = rows_of_instances c.args.net.now c.loop-x.x (length c.items-x-end.result.now) _ _ c.loop-x.invariant c.loop-x.auto.x-end c.loop-x-test.false (ap length c.items-x-end.ensures)
