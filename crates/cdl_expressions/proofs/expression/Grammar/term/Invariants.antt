use Rattle.std.proofs.Common.{◌≡◌, ◌-◌}
use Rattle.cdl_tree.specs.Trees.{factor}
use Rattle.cdl_expressions.specs.Expressions.{expr, term, prim, grouped_from}
use Rattle.cdl_expressions.proofs.expression.Grammar.term.Given as goal

abbrev pub invariant-loop-turn : goal.invariant-loop-turn
invariant-loop-turn g l = term l.self.depth (expr l.self.depth) l.fn.tokens ≡ grouped_from factor (prim l.self.depth (expr l.self.depth)) (l._turn-end - l._turn) l.start l.left l.tokens
