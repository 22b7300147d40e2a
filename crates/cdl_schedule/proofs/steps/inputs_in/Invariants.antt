use Rattle.std.specs.Prelude.{◌≡◌}
use Rattle.cdl_schedule.specs.inner.Passed.{input_steps, inputs_below}
use Rattle.cdl_schedule.proofs.steps.inputs_in.Given as goal

abbrev pub invariant-loop-x : goal.invariant-loop-x
invariant-loop-x l = l.steps.items ≡ input_steps 0 (inputs_below l.net l.x)
