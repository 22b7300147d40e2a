use Rattle.std.proofs.Common.{◌≡◌, ◌-◌}
use Rattle.cdl_expressions.specs.Expressions.{expr, land, lnot, grouped_from, conjunction}
use Rattle.cdl_expressions.proofs.expression.Grammar.land.Given as goal

abbrev pub invariant-loop-turn : goal.invariant-loop-turn
invariant-loop-turn g l = land l.self.depth (expr l.self.depth) l.fn.tokens ≡ grouped_from conjunction (lnot l.self.depth (expr l.self.depth)) (l._turn-end - l._turn) l.start l.left l.tokens
