use Rattle.std.proofs.Common.{rules, arith}
use Rattle.std.proofs.lemmas.Grind.{common_steps}
use Rattle.cdl_expressions.specs.Expressions.{expr, lor, land, grouped_from, grouped_by, disjunction}
use Rattle.cdl_reading.proofs.Turns.{one_more, no_more}
use Rattle.cdl_expressions.proofs.expression.Grammar.lor.Goals as goal

pub returns-in_err-left : goal.returns-in_err-left
unfolding lor
returns-in_err-left g c = first_of (search rules, grind (arith, common_steps))

pub loop-turn-init : goal.loop-turn-init
unfolding lor
loop-turn-init g c = first_of (search rules, grind (arith, common_steps))

pub returns-in_default : goal.returns-in_default
unfolding grouped_from grouped_by
returns-in_default g c =
    let e = one_more (λ n. grouped_from disjunction (land c.args.self.now.depth (expr c.args.self.now.depth)) n c.here-start.result c.loop-turn.left c.loop-turn.tokens) _ c.loop-turn._turn c.loop-turn-test.true c.loop-turn.invariant in
    first_of (search rules, grind (arith, common_steps))

pub returns-in_err-right : goal.returns-in_err-right
unfolding grouped_from grouped_by
returns-in_err-right g c =
    let e = one_more (λ n. grouped_from disjunction (land c.args.self.now.depth (expr c.args.self.now.depth)) n c.here-start.result c.loop-turn.left c.loop-turn.tokens) _ c.loop-turn._turn c.loop-turn-test.true c.loop-turn.invariant in
    first_of (search rules, grind (arith, common_steps))

pub loop-turn-preserved : goal.loop-turn-preserved
unfolding grouped_from grouped_by
loop-turn-preserved g c =
    let e = one_more (λ n. grouped_from disjunction (land c.args.self.now.depth (expr c.args.self.now.depth)) n c.here-start.result c.loop-turn.left c.loop-turn.tokens) _ c.loop-turn._turn c.loop-turn-test.true c.loop-turn.invariant in
    first_of (search rules, grind (arith, common_steps))

pub returns : goal.returns
unfolding grouped_from
returns g c =
    let e = no_more (λ n. grouped_from disjunction (land c.args.self.now.depth (expr c.args.self.now.depth)) n c.here-start.result c.loop-turn.left c.loop-turn.tokens) _ c.loop-turn._turn c.loop-turn-test.false c.loop-turn.invariant in
    first_of (search rules, grind (arith, common_steps))
