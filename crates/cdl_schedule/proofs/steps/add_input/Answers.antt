use Rattle.std.proofs.Common.{arith, sym, ◌∙◌}
use Rattle.cdl_schedule.proofs.Passing.{inputs_add, inputs_few, inputs_skip}
use Rattle.cdl_schedule.proofs.steps.add_input.Goals as goal

pub overflow_cast-place : goal.overflow_cast-place
overflow_cast-place c =
    let a = inputs_few c.args.net.now c.args.x c.args.steps.now.items c.requires.inputs in
    let b = c.requires.checked.indexed.elements in
    let d = c.requires.inside in
    let e = c.len-place.ensures in
    omega (arith, a, b, d, e)

pub returns-in_ok-push : goal.returns-in_ok-push
returns-in_ok-push c = inputs_add c.args.net.now c.args.x _ c.args.steps.now.items c.push.new.self.items c.requires.inputs (sym c.is_root_input.ensures ∙ c.if-is_root_input.true) (let e = c.len-place.ensures in omega (arith, e)) c.in_ok-push.ensures.items

pub returns-else-is_root_input : goal.returns-else-is_root_input
returns-else-is_root_input c = inputs_skip c.args.net.now c.args.x c.args.steps.now.items c.requires.inputs (sym c.is_root_input.ensures ∙ c.if-is_root_input.false)
