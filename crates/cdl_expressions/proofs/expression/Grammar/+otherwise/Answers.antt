use Rattle.std.proofs.Common.{◌≡◌, ap, arith}
use Rattle.cdl_expressions.specs.Expressions.{expr, otherwise}
use Rattle.cdl_reading.proofs.Turns.{deeper}
use Rattle.cdl_expressions.proofs.expression.Grammar.+otherwise.Goals as goal

pub otherwise-returns-then-turns-eq0 : goal.otherwise-returns-then-turns-eq0
unfolding otherwise
otherwise-returns-then-turns-eq0 g t c =
    let none : c.args.turns ≡ 0 = omega arith in ap (λ n. otherwise c.args.self.now.depth (expr c.args.self.now.depth) n c.args.tokens.now) none

pub otherwise-returns : goal.otherwise-returns
unfolding otherwise
otherwise-returns g t c =
    rw (deeper (λ n. otherwise c.args.self.now.depth (expr c.args.self.now.depth) n c.args.tokens.now) c.args.turns (omega arith)) c.next.ensures
