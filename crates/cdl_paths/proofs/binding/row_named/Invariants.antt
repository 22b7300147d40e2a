use Rattle.std.proofs.Common.{◌≡◌, drop, map}
use Rattle.cdl_kinds.specs.Parameters.{parameters as parameters_of, parameter_row}
use Rattle.cdl_paths.specs.Bindings as spec
use Rattle.cdl_paths.proofs.binding.row_named.Given as goal

abbrev pub invariant-loop-row : goal.invariant-loop-row
invariant-loop-row l = spec.row_named l.name (map parameter_row (drop l.row-index l.row-items)) ≡ spec.row_named l.name (parameters_of l.fn.kind)
