use Rattle.std.proofs.Common.{◌≡◌, ◌-◌}
use Rattle.cdl_tree.specs.Trees.{sign}
use Rattle.cdl_expressions.specs.Expressions.{expr, sum, term, grouped_from}
use Rattle.cdl_expressions.proofs.expression.Grammar.sum.Given as goal

abbrev pub invariant-loop-turn : goal.invariant-loop-turn
invariant-loop-turn g l = sum l.self.depth (expr l.self.depth) l.fn.tokens ≡ grouped_from sign (term l.self.depth (expr l.self.depth)) (l._turn-end - l._turn) l.start l.left l.tokens
