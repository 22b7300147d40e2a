use Rattle.std.proofs.Common.{map, take}
use Rattle.std.specs.Prelude.{ℤ}
use Rattle.cdl_kinds.specs.Conditions.{FitRows}
use Rattle.cdl_kinds.specs.Parameters.{parameter_row}
use Rattle.cdl_run_tests.proofs.values.scalars.Given as goal

abbrev pub invariant-loop-i : goal.invariant-loop-i
invariant-loop-i l = (nin : ℤ) → FitRows nin (map parameter_row (take l.i l.rows)) l.values
