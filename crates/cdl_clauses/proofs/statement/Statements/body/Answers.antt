use Rattle.std.proofs.Common.{rules, arith}
use Rattle.std.proofs.lemmas.Grind.{common_steps}
use Rattle.cdl_clauses.specs.Statements.{statement, body, body_from}
use Rattle.cdl_reading.proofs.Turns.{one_more, no_more}
use Rattle.cdl_clauses.proofs.statement.Statements.body.Goals as goal

pub loop-turn-init : goal.loop-turn-init
unfolding body
loop-turn-init g c = first_of (search rules, grind (arith, common_steps))

pub returns-then-not-begins_statement : goal.returns-then-not-begins_statement
unfolding body_from
returns-then-not-begins_statement g c =
    let e = one_more (λ n. body_from c.args.self.now.depth (statement c.args.self.now.depth) n c.loop-turn.found c.loop-turn.tokens) _ c.loop-turn._turn c.loop-turn-test.true c.loop-turn.invariant in
    first_of (search rules, grind (arith, common_steps))

pub returns-in_err-whole : goal.returns-in_err-whole
unfolding body_from
returns-in_err-whole g c =
    let e = one_more (λ n. body_from c.args.self.now.depth (statement c.args.self.now.depth) n c.loop-turn.found c.loop-turn.tokens) _ c.loop-turn._turn c.loop-turn-test.true c.loop-turn.invariant in
    first_of (search rules, grind (arith, common_steps))

pub loop-turn-preserved : goal.loop-turn-preserved
unfolding body_from
loop-turn-preserved g c =
    let e = one_more (λ n. body_from c.args.self.now.depth (statement c.args.self.now.depth) n c.loop-turn.found c.loop-turn.tokens) _ c.loop-turn._turn c.loop-turn-test.true c.loop-turn.invariant in
    first_of (search rules, grind (arith, common_steps))

pub returns : goal.returns
unfolding body_from
returns g c =
    let e = no_more (λ n. body_from c.args.self.now.depth (statement c.args.self.now.depth) n c.loop-turn.found c.loop-turn.tokens) _ c.loop-turn._turn c.loop-turn-test.false c.loop-turn.invariant in
    first_of (search rules, grind (arith, common_steps))
