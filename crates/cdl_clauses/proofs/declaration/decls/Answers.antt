use Rattle.std.proofs.Common.{rules, arith}
use Rattle.std.proofs.lemmas.Grind.{common_steps}
use Rattle.cdl_tree.specs.declared.terminal.Terminal.TheVariants as the
use Rattle.cdl_reading.specs.Reading.{list, list_from}
use Rattle.cdl_clauses.specs.Declarations.{decl, decls}
use Rattle.cdl_reading.proofs.Turns.{one_more, no_more}
use Rattle.cdl_clauses.proofs.declaration.decls.Goals as goal

pub returns-in_err-decl : goal.returns-in_err-decl
unfolding decls list
returns-in_err-decl c = first_of (search rules, grind (arith, common_steps))

pub loop-turn-init : goal.loop-turn-init
unfolding decls list
loop-turn-init c = first_of (search rules, grind (arith, common_steps))

pub returns-then-not-eat : goal.returns-then-not-eat
unfolding list_from
returns-then-not-eat c =
    let e = one_more (λ n. list_from the.Comma (decl c.args.most (record { is_final = c.args.head.now.is_final; prefix = c.args.head.now.prefix; class = c.args.head.now.class })) n c.loop-turn.found c.loop-turn.tokens) _ c.loop-turn._turn c.loop-turn-test.true c.loop-turn.invariant in
    first_of (search rules, grind (arith, common_steps))

pub returns-in_err-decl-2 : goal.returns-in_err-decl-2
unfolding list_from
returns-in_err-decl-2 c =
    let e = one_more (λ n. list_from the.Comma (decl c.args.most (record { is_final = c.args.head.now.is_final; prefix = c.args.head.now.prefix; class = c.args.head.now.class })) n c.loop-turn.found c.loop-turn.tokens) _ c.loop-turn._turn c.loop-turn-test.true c.loop-turn.invariant in
    first_of (search rules, grind (arith, common_steps))

pub loop-turn-preserved : goal.loop-turn-preserved
unfolding list_from
loop-turn-preserved c =
    let e = one_more (λ n. list_from the.Comma (decl c.args.most (record { is_final = c.args.head.now.is_final; prefix = c.args.head.now.prefix; class = c.args.head.now.class })) n c.loop-turn.found c.loop-turn.tokens) _ c.loop-turn._turn c.loop-turn-test.true c.loop-turn.invariant in
    first_of (search rules, grind (arith, common_steps))

pub returns : goal.returns
unfolding list_from
returns c =
    let e = no_more (λ n. list_from the.Comma (decl c.args.most (record { is_final = c.args.head.now.is_final; prefix = c.args.head.now.prefix; class = c.args.head.now.class })) n c.loop-turn.found c.loop-turn.tokens) _ c.loop-turn._turn c.loop-turn-test.false c.loop-turn.invariant in
    first_of (search rules, grind (arith, common_steps))
