use Rattle.std.proofs.Common.{◌≡◌, drop}
use Rattle.cdl_scopes.specs.Classes.{declared}
use Rattle.cdl_paths.specs.Bindings as spec
use Rattle.cdl_paths.proofs.binding.binding_of.Given as goal

abbrev pub invariant-loop-i : goal.invariant-loop-i
invariant-loop-i l = spec.binding_of (declared l.table) l.site l.i (drop l.i l.steps) l.name ≡ spec.binding_of (declared l.table) l.fn.first 0 l.steps l.name
