use Rattle.std.proofs.Common.{◌≡◌, ◌++◌, drop, map}
use Rattle.cdl_kinds.specs.Parameters.{parameter_row, parameters}
use Rattle.cxf_graph.specs.Written.{given_all}
use Rattle.cxf_graph.proofs.given.given_all.Given as goal

abbrev pub invariant-loop-i : goal.invariant-loop-i
invariant-loop-i l = given_all l.values 0 (parameters l.fn.kind) ≡ l.given ++ given_all l.values l.i (map parameter_row (drop l.i l.parameter-items))
