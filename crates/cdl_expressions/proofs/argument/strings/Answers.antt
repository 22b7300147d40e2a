use Rattle.std.proofs.Common.{rules, arith}
use Rattle.std.proofs.lemmas.Grind.{common_steps}
use Rattle.cdl_expressions.specs.Arguments.{strings_from}
use Rattle.cdl_reading.proofs.Turns.{one_more, no_more}
use Rattle.cdl_expressions.proofs.argument.strings.Goals as goal

pub loop-turn-init : goal.loop-turn-init
loop-turn-init c = first_of (search rules, grind (arith, common_steps))

pub returns-then-not-eat : goal.returns-then-not-eat
unfolding strings_from
returns-then-not-eat c =
    let e = one_more (λ n. strings_from n c.loop-turn.tokens) _ c.loop-turn._turn c.loop-turn-test.true c.loop-turn.invariant in
    first_of (search rules, grind (arith, common_steps))

pub returns-in_err-expect : goal.returns-in_err-expect
unfolding strings_from
returns-in_err-expect c =
    let e = one_more (λ n. strings_from n c.loop-turn.tokens) _ c.loop-turn._turn c.loop-turn-test.true c.loop-turn.invariant in
    first_of (search rules, grind (arith, common_steps))

pub loop-turn-preserved : goal.loop-turn-preserved
unfolding strings_from
loop-turn-preserved c =
    let e = one_more (λ n. strings_from n c.loop-turn.tokens) _ c.loop-turn._turn c.loop-turn-test.true c.loop-turn.invariant in
    first_of (search rules, grind (arith, common_steps))

pub returns : goal.returns
unfolding strings_from
returns c =
    let e = no_more (λ n. strings_from n c.loop-turn.tokens) _ c.loop-turn._turn c.loop-turn-test.false c.loop-turn.invariant in
    first_of (search rules, grind (arith, common_steps))
