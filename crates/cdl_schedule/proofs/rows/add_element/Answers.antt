use Rattle.std.proofs.Common.{sym, ◌∙◌}
use Rattle.cdl_schedule.proofs.Causes.{element_row, empty_row}
use Rattle.cdl_schedule.proofs.rows.add_element.Goals as goal

pub end_row-requires-clause-rows : goal.end_row-requires-clause-rows
end_row-requires-clause-rows c = element_row c.args.net.now c.args.sources.now c.args.x c.in-Some.u _ _ _ c.requires.checked c.requires.sources c.requires.inside (sym c.cause.ensures ∙ c.in-Some.is) c.in_ok-push-in-Some.ensures.items c.requires.rows

pub end_row-requires-in-None-clause-rows : goal.end_row-requires-in-None-clause-rows
end_row-requires-in-None-clause-rows c = empty_row c.args.net.now c.args.sources.now c.args.x _ _ c.requires.checked c.requires.sources c.requires.inside (sym c.cause.ensures ∙ c.in-None.is) c.requires.rows
