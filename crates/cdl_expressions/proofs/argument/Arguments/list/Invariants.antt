use Rattle.std.proofs.Common.{◌≡◌, ◌-◌}
use Rattle.cdl_tree.specs.declared.terminal.Terminal.TheVariants as the
use Rattle.cdl_reading.specs.Reading.{list_from}
use Rattle.cdl_expressions.specs.Arguments.{args, arg, arg_list}
use Rattle.cdl_expressions.proofs.argument.Arguments.list.Given as goal

abbrev pub invariant-loop-turn : goal.invariant-loop-turn
invariant-loop-turn g l = arg_list l.self.depth (args l.self.depth) l.fn.tokens ≡ list_from the.Comma (arg l.self.depth (args l.self.depth)) (l._turn-end - l._turn) l.found l.tokens
