use Rattle.std.proofs.Common.{◌≡◌, ◌-◌}
use Rattle.cdl_expressions.specs.Arguments.{strings_from}
use Rattle.cdl_expressions.proofs.argument.strings.Given as goal

abbrev pub invariant-loop-turn : goal.invariant-loop-turn
invariant-loop-turn l = strings_from l.fn.most l.fn.tokens ≡ strings_from (l.fn.most - l._turn) l.tokens
