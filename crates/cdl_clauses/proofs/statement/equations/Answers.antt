use Rattle.std.proofs.Common.{rules, arith}
use Rattle.std.proofs.lemmas.Grind.{common_steps}
use Rattle.cdl_clauses.specs.Statements.{equations_from}
use Rattle.cdl_reading.proofs.Turns.{one_more, no_more}
use Rattle.cdl_clauses.proofs.statement.equations.Goals as goal

pub loop-turn-init : goal.loop-turn-init
loop-turn-init c = first_of (search rules, grind (arith, common_steps))

pub returns-then-not-begins_equation : goal.returns-then-not-begins_equation
unfolding equations_from
returns-then-not-begins_equation c =
    let e = one_more (λ n. equations_from c.args.most n c.loop-turn.found c.loop-turn.tokens) _ c.loop-turn._turn c.loop-turn-test.true c.loop-turn.invariant in
    first_of (search rules, grind (arith, common_steps))

pub returns-in_err-found : goal.returns-in_err-found
unfolding equations_from
returns-in_err-found c =
    let e = one_more (λ n. equations_from c.args.most n c.loop-turn.found c.loop-turn.tokens) _ c.loop-turn._turn c.loop-turn-test.true c.loop-turn.invariant in
    first_of (search rules, grind (arith, common_steps))

pub loop-turn-preserved : goal.loop-turn-preserved
unfolding equations_from
loop-turn-preserved c =
    let e = one_more (λ n. equations_from c.args.most n c.loop-turn.found c.loop-turn.tokens) _ c.loop-turn._turn c.loop-turn-test.true c.loop-turn.invariant in
    first_of (search rules, grind (arith, common_steps))

pub returns : goal.returns
unfolding equations_from
returns c =
    let e = no_more (λ n. equations_from c.args.most n c.loop-turn.found c.loop-turn.tokens) _ c.loop-turn._turn c.loop-turn-test.false c.loop-turn.invariant in
    first_of (search rules, grind (arith, common_steps))
