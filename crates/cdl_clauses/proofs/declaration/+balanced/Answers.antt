use Rattle.std.proofs.Common.{◌≡◌, suc, ◌-◌, ap, rules, arith}
use Rattle.std.proofs.lemmas.Grind.{common_steps}
use Rattle.cdl_clauses.specs.Declarations.{balanced, balanced_from}
use Rattle.cdl_reading.proofs.Turns.{one_more, no_more}
use Rattle.cdl_clauses.proofs.declaration.+balanced.Goals as goal

pub balanced-returns-then-depth-eq0 : goal.balanced-returns-then-depth-eq0
unfolding balanced
balanced-returns-then-depth-eq0 t c = let none : c.args.depth ≡ 0 = omega arith in ap (λ n. balanced n c.args.tokens.now) none

pub balanced-returns : goal.balanced-returns
unfolding balanced
balanced-returns t c =
    let turn : c.args.depth ≡ suc (c.args.depth - 1) = omega arith in
    let e = ap (λ n. balanced n c.args.tokens.now) turn in
    let count = ap (λ n. balanced_from (balanced (c.args.depth - 1)) n c.args.tokens.now) turn in
    first_of (search rules, grind (arith, common_steps))

pub balanced_parts-returns-then-not-begins_balanced : goal.balanced_parts-returns-then-not-begins_balanced
unfolding balanced_from
balanced_parts-returns-then-not-begins_balanced t c =
    let e = one_more (λ n. balanced_from (balanced c.args.depth) n c.loop-turn.tokens) _ c.loop-turn._turn c.loop-turn-test.true c.loop-turn.invariant in
    first_of (search rules, grind (arith, common_steps))

pub balanced_parts-returns-in_err-balanced_part : goal.balanced_parts-returns-in_err-balanced_part
unfolding balanced_from
balanced_parts-returns-in_err-balanced_part t c =
    let e = one_more (λ n. balanced_from (balanced c.args.depth) n c.loop-turn.tokens) _ c.loop-turn._turn c.loop-turn-test.true c.loop-turn.invariant in
    first_of (search rules, grind (arith, common_steps))

pub balanced_parts-loop-turn-preserved : goal.balanced_parts-loop-turn-preserved
unfolding balanced_from
balanced_parts-loop-turn-preserved t c =
    let e = one_more (λ n. balanced_from (balanced c.args.depth) n c.loop-turn.tokens) _ c.loop-turn._turn c.loop-turn-test.true c.loop-turn.invariant in
    first_of (search rules, grind (arith, common_steps))

pub balanced_parts-returns : goal.balanced_parts-returns
unfolding balanced_from
balanced_parts-returns t c =
    let e = no_more (λ n. balanced_from (balanced c.args.depth) n c.loop-turn.tokens) _ c.loop-turn._turn c.loop-turn-test.false c.loop-turn.invariant in
    first_of (search rules, grind (arith, common_steps))
