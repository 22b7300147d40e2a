use Rattle.std.proofs.Common.{◌≡◌, drop}
use Rattle.cdl_scopes.specs.Classes.{declared}
use Rattle.cdl_paths.specs.Members as spec
use Rattle.cdl_paths.proofs.member.site.Given as goal

abbrev pub invariant-loop-step : goal.invariant-loop-step
invariant-loop-step l = spec.site (declared l.table) l.site (drop l.step-index l.steps) ≡ spec.site (declared l.table) l.fn.first l.steps
