use Rattle.std.proofs.Common.{◌≡◌, map, drop}
use Rattle.cdl_kinds.specs.Parameters.{parameter_row}
use Rattle.cdl_walk.specs.Places.{here}
use Rattle.cdl_walk.specs.Stations as spec
use Rattle.cdl_walk.proofs.Behind.{behind}
use Rattle.cdl_walk.proofs.blocks.parameters_of.Given as goal

abbrev pub invariant-loop-i : goal.invariant-loop-i
invariant-loop-i l = record {
  kept : l.e ≡ l.fn.e;
  so_far : behind l.values (spec.parameter_stations l.fn.e (here l.place) (map parameter_row (drop l.i l.rows))) ≡ spec.parameter_stations l.fn.e (here l.place) (map parameter_row l.rows);
}
