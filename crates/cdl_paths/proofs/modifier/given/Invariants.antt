use Rattle.std.proofs.Common.{◌≡◌, drop}
use Rattle.cdl_paths.specs.Modifiers as spec
use Rattle.cdl_paths.proofs.modifier.given.Given as goal

abbrev pub invariant-loop-step : goal.invariant-loop-step
invariant-loop-step l = spec.given l.args (drop l.step-index l.steps) l.name ≡ spec.given l.fn.args l.steps l.name
