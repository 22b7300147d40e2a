use Rattle.std.proofs.Common.{◌≡◌, map, drop}
use Rattle.cdl_kinds.specs.Groups.{group_row}
use Rattle.cdl_walk.specs.Places.{here}
use Rattle.cdl_walk.specs.Stations as spec
use Rattle.cdl_walk.proofs.Behind.{behind}
use Rattle.cdl_walk.proofs.blocks.ports_of.Given as goal

abbrev pub invariant-loop-i : goal.invariant-loop-i
invariant-loop-i l = record {
  kept : l.e ≡ l.fn.e;
  so_far : behind l.all (spec.port_stations l.fn.e (here l.place) l.n l.input (map group_row (drop l.i l.groups))) ≡ spec.port_stations l.fn.e (here l.place) l.n l.input (map group_row l.groups);
}
