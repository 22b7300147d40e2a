use Rattle.std.proofs.Common.{◌≡◌, ◌-◌}
use Rattle.cdl_reading.specs.Reading.{list_from}
use Rattle.cdl_reading.proofs.lists.list_behind.Given as goal

abbrev pub ghost-next : goal.ghost-next
ghost-next g a = g.rule

abbrev pub invariant-loop-turn : goal.invariant-loop-turn
invariant-loop-turn g l = list_from l.fn.separator g.rule l.fn.most l.fn.found l.fn.tokens ≡ list_from l.fn.separator g.rule (l.fn.most - l._turn) l.found l.tokens
