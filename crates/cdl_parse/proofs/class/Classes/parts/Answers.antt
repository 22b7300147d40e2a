use Rattle.std.proofs.Common.{rules, arith}
use Rattle.std.proofs.lemmas.Grind.{common_steps}
use Rattle.cdl_parse.specs.Classes.{class, package_parts, package_parts_from}
use Rattle.cdl_reading.proofs.Turns.{one_more, no_more}
use Rattle.cdl_parse.proofs.class.Classes.parts.Goals as goal

pub loop-turn-init : goal.loop-turn-init
unfolding package_parts
loop-turn-init g c = first_of (search rules, grind (arith, common_steps))

pub returns-then-not-begins_package_part : goal.returns-then-not-begins_package_part
unfolding package_parts_from
returns-then-not-begins_package_part g c =
    let e = one_more (λ n. package_parts_from c.args.self.now.depth (class c.args.self.now.depth) n c.loop-turn.found c.loop-turn.tokens) _ c.loop-turn._turn c.loop-turn-test.true c.loop-turn.invariant in
    first_of (search rules, grind (arith, common_steps))

pub returns-in_err-found : goal.returns-in_err-found
unfolding package_parts_from
returns-in_err-found g c =
    let e = one_more (λ n. package_parts_from c.args.self.now.depth (class c.args.self.now.depth) n c.loop-turn.found c.loop-turn.tokens) _ c.loop-turn._turn c.loop-turn-test.true c.loop-turn.invariant in
    first_of (search rules, grind (arith, common_steps))

pub loop-turn-preserved : goal.loop-turn-preserved
unfolding package_parts_from
loop-turn-preserved g c =
    let e = one_more (λ n. package_parts_from c.args.self.now.depth (class c.args.self.now.depth) n c.loop-turn.found c.loop-turn.tokens) _ c.loop-turn._turn c.loop-turn-test.true c.loop-turn.invariant in
    first_of (search rules, grind (arith, common_steps))

pub returns : goal.returns
unfolding package_parts_from
returns g c =
    let e = no_more (λ n. package_parts_from c.args.self.now.depth (class c.args.self.now.depth) n c.loop-turn.found c.loop-turn.tokens) _ c.loop-turn._turn c.loop-turn-test.false c.loop-turn.invariant in
    first_of (search rules, grind (arith, common_steps))
