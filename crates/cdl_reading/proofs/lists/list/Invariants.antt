use Rattle.cdl_reading.proofs.lists.list.Given as goal

abbrev pub ghost-next : goal.ghost-next
ghost-next g a = g.rule

abbrev pub ghost-list_behind : goal.ghost-list_behind
ghost-list_behind g a = g.rule
