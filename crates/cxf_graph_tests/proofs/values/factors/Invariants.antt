use Rattle.std.proofs.Common.{◌≡◌, length}
use Rattle.std.specs.Prelude.{All}
use Rattle.cdl_values.specs.Values.{IsOf}
use Rattle.cxf_graph_tests.proofs.values.factors.Given as goal

abbrev pub invariant-loop-i : goal.invariant-loop-i
invariant-loop-i l = record { each : All (IsOf l.value_type) l.values; count : length l.values ≡ l.i }
