use Rattle.std.proofs.Common.{◌≡◌, length, rules}
use Rattle.cdl_schedule.proofs.Causes.{row_ended}
use Rattle.cdl_schedule.proofs.rows.end_row.Goals as goal

pub returns : goal.returns
returns c =
    let e : c.len.result ≡ length c.args.rows.now.edges.items = search rules in
    row_ended c.args._net.now c.args.v _ _ _ _ c.requires.checked c.requires.rows c.in_ok-push.ensures.items e
