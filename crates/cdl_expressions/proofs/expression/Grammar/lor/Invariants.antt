use Rattle.std.proofs.Common.{◌≡◌, ◌-◌}
use Rattle.cdl_expressions.specs.Expressions.{expr, lor, land, grouped_from, disjunction}
use Rattle.cdl_expressions.proofs.expression.Grammar.lor.Given as goal

abbrev pub invariant-loop-turn : goal.invariant-loop-turn
invariant-loop-turn g l = lor l.self.depth (expr l.self.depth) l.fn.tokens ≡ grouped_from disjunction (land l.self.depth (expr l.self.depth)) (l._turn-end - l._turn) l.start l.left l.tokens
