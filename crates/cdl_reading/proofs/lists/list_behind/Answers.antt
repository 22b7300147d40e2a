use Rattle.std.proofs.Common.{rules, arith}
use Rattle.std.proofs.lemmas.Grind.{common_steps}
use Rattle.cdl_reading.specs.Reading.{list_from}
use Rattle.cdl_reading.proofs.Turns.{one_more, no_more}
use Rattle.cdl_reading.proofs.lists.list_behind.Goals as goal

pub loop-turn-init : goal.loop-turn-init
unfolding list_from
loop-turn-init g c = first_of (search rules, grind (arith, common_steps))

pub returns-then-not-eat : goal.returns-then-not-eat
unfolding list_from
returns-then-not-eat g c =
    let e = one_more (λ n. list_from c.args.separator g.rule n c.loop-turn.found c.loop-turn.tokens) _ c.loop-turn._turn c.loop-turn-test.true c.loop-turn.invariant in
    first_of (search rules, grind (arith, common_steps))

pub returns-in_err-next : goal.returns-in_err-next
unfolding list_from
returns-in_err-next g c =
    let e = one_more (λ n. list_from c.args.separator g.rule n c.loop-turn.found c.loop-turn.tokens) _ c.loop-turn._turn c.loop-turn-test.true c.loop-turn.invariant in
    first_of (search rules, grind (arith, common_steps))

pub loop-turn-preserved : goal.loop-turn-preserved
unfolding list_from
loop-turn-preserved g c =
    let e = one_more (λ n. list_from c.args.separator g.rule n c.loop-turn.found c.loop-turn.tokens) _ c.loop-turn._turn c.loop-turn-test.true c.loop-turn.invariant in
    first_of (search rules, grind (arith, common_steps))

pub returns : goal.returns
unfolding list_from
returns g c =
    let e = no_more (λ n. list_from c.args.separator g.rule n c.loop-turn.found c.loop-turn.tokens) _ c.loop-turn._turn c.loop-turn-test.false c.loop-turn.invariant in
    first_of (search rules, grind (arith, common_steps))
