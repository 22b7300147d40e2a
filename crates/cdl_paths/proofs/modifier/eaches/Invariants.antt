use Rattle.std.proofs.Common.{◌≡◌, ◌++◌, drop}
use Rattle.cdl_paths.specs.Modifiers as spec
use Rattle.cdl_paths.proofs.modifier.eaches.Given as goal

abbrev pub invariant-loop-step : goal.invariant-loop-step
invariant-loop-step l = l.outs ++ spec.eaches l.args (drop l.step-index l.steps) l.name ≡ spec.eaches l.fn.args l.steps l.name
