use Rattle.std.proofs.Common.{◌≡◌, ◌-◌}
use Rattle.cdl_tree.specs.declared.terminal.Terminal.TheVariants as the
use Rattle.cdl_reading.specs.Reading.{list_from}
use Rattle.cdl_clauses.specs.Declarations.{decl, decls}
use Rattle.cdl_clauses.proofs.declaration.decls.Given as goal

abbrev pub invariant-loop-turn : goal.invariant-loop-turn
invariant-loop-turn l = decls l.fn.most (record { is_final = l.fn.head.is_final; prefix = l.fn.head.prefix; class = l.fn.head.class }) l.fn.found l.fn.tokens ≡ list_from the.Comma (decl l.fn.most (record { is_final = l.fn.head.is_final; prefix = l.fn.head.prefix; class = l.fn.head.class })) (l.fn.most - l._turn) l.found l.tokens
