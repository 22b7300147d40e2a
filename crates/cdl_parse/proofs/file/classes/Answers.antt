use Rattle.std.proofs.Common.{rules, arith}
use Rattle.std.proofs.lemmas.Grind.{common_steps}
use Rattle.cdl_parse.specs.Classes.{file_classes, file_from}
use Rattle.cdl_reading.proofs.Turns.{one_more, no_more}
use Rattle.cdl_parse.proofs.file.classes.Goals as goal

pub returns-in_err-found : goal.returns-in_err-found
unfolding file_classes
returns-in_err-found c = first_of (search rules, grind (arith, common_steps))

pub loop-turn-init : goal.loop-turn-init
unfolding file_classes
loop-turn-init c = first_of (search rules, grind (arith, common_steps))

pub returns-then-not-begins_class : goal.returns-then-not-begins_class
unfolding file_from
returns-then-not-begins_class c =
    let e = one_more (λ n. file_from c.args.most n c.loop-turn.found c.loop-turn.tokens) _ c.loop-turn._turn c.loop-turn-test.true c.loop-turn.invariant in
    first_of (search rules, grind (arith, common_steps))

pub returns-in_err-found-2 : goal.returns-in_err-found-2
unfolding file_from
returns-in_err-found-2 c =
    let e = one_more (λ n. file_from c.args.most n c.loop-turn.found c.loop-turn.tokens) _ c.loop-turn._turn c.loop-turn-test.true c.loop-turn.invariant in
    first_of (search rules, grind (arith, common_steps))

pub loop-turn-preserved : goal.loop-turn-preserved
unfolding file_from
loop-turn-preserved c =
    let e = one_more (λ n. file_from c.args.most n c.loop-turn.found c.loop-turn.tokens) _ c.loop-turn._turn c.loop-turn-test.true c.loop-turn.invariant in
    first_of (search rules, grind (arith, common_steps))

pub returns : goal.returns
unfolding file_from
returns c =
    let e = no_more (λ n. file_from c.args.most n c.loop-turn.found c.loop-turn.tokens) _ c.loop-turn._turn c.loop-turn-test.false c.loop-turn.invariant in
    first_of (search rules, grind (arith, common_steps))
