use Rattle.std.proofs.Common.{◌+◌, ◌*◌}
use Rattle.cdl_expressions.proofs.expression.Grammar.+otherwise.Given as goal

abbrev pub decreases-otherwise : goal.decreases-otherwise
decreases-otherwise g l = 3 * l.turns

abbrev pub decreases-choice : goal.decreases-choice
decreases-choice g l = 3 * l.turns + 1

abbrev pub decreases-next : goal.decreases-next
decreases-next g l = 3 * l.turns + 2
