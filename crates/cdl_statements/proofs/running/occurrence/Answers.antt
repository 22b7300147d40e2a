use Rattle.std.proofs.Common.{sym, ◌∙◌}
use Rattle.cdl_statements.proofs.running.occurrence.Goals as goal

pub add_wires-requires-clause-left : goal.add_wires-requires-clause-left
add_wires-requires-clause-left c = c.requires.joins.left c.args.locals.now c.args.connect.now c.in-Joins.left c.in-Joins.right (sym c.in_ok-found.ensures.value ∙ c.in-Joins.is)

pub add_wires-requires-clause-right : goal.add_wires-requires-clause-right
add_wires-requires-clause-right c = c.requires.joins.right c.args.locals.now c.args.connect.now c.in-Joins.left c.in-Joins.right (sym c.in_ok-found.ensures.value ∙ c.in-Joins.is)
