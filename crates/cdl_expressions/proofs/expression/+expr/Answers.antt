use Rattle.std.proofs.Common.{◌≡◌, ap, arith}
use Rattle.cdl_expressions.specs.Expressions.{expr}
use Rattle.cdl_reading.proofs.Turns.{deeper}
use Rattle.cdl_expressions.proofs.expression.+expr.Goals as goal

pub returns-then-depth-eq0 : goal.returns-then-depth-eq0
unfolding expr
returns-then-depth-eq0 t c = let none : c.args.depth ≡ 0 = omega arith in ap (λ n. expr n c.args.tokens.now) none

pub returns : goal.returns
unfolding expr
returns t c = rw (deeper (λ n. expr n c.args.tokens.now) c.args.depth (omega arith)) c.conditional.ensures
