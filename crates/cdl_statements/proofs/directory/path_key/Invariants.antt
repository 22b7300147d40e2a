use Rattle.std.proofs.Common.{◌≡◌, ◌++◌, drop}
use Rattle.cdl_statements.specs.inner.Keys as spec
use Rattle.cdl_statements.proofs.directory.path_key.Given as goal

abbrev pub invariant-loop-step : goal.invariant-loop-step
invariant-loop-step l = l.key.items ++ spec.path_key (drop l.step-index l.path) ≡ spec.path_key l.path
