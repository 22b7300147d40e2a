use Rattle.std.proofs.Common.{◌≡◌, ◌-◌}
use Rattle.cdl_tree.specs.declared.terminal.Terminal.TheVariants as the
use Rattle.cdl_reading.specs.Reading.{list_from}
use Rattle.cdl_expressions.specs.Expressions.{expr, exprs}
use Rattle.cdl_expressions.proofs.expression.Grammar.exprs.Given as goal

abbrev pub invariant-loop-turn : goal.invariant-loop-turn
invariant-loop-turn g l = exprs l.self.depth (expr l.self.depth) l.fn.tokens ≡ list_from the.Comma (expr l.self.depth) (l._turn-end - l._turn) l.found l.tokens
