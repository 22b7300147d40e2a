use Rattle.std.proofs.Common.{rules}
use Rattle.cdl_scopes.specs.Classes.{declared}
use Rattle.cdl_items.proofs.ArgumentLaws.{rule_found, rule_passed}
use Rattle.cdl_items.proofs.arguments.+arguments.Goals as goal

pub broken_arguments-returns-in-Some : goal.broken_arguments-returns-in-Some
broken_arguments-returns-in-Some t c = rule_found (declared c.args.table.now) c.args.target c.args.args.now c.loop-i.i c.index-args-i.result c.is_named-again.result c.in-Some.rule
    c.loop-i.invariant c.loop-i-test.true c.index-args-i.is (search rules) (search rules)

pub broken_arguments-loop-i-preserved : goal.broken_arguments-loop-i-preserved
broken_arguments-loop-i-preserved t c = rule_passed (declared c.args.table.now) c.args.target c.args.args.now c.loop-i.i c.index-args-i.result c.is_named-again.result
    c.loop-i.invariant c.loop-i-test.true c.index-args-i.is (search rules) (search rules)
