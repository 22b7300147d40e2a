use Rattle.std.proofs.Common.{◌≡◌, take, map, Some}
use Rattle.std.specs.List.{slice_get}
use Rattle.cdl_joins.specs.Sides as spec
use Rattle.cdl_statements.proofs.net.numbers_of.Given as goal

abbrev pub invariant-loop-i : goal.invariant-loop-i
invariant-loop-i l = map (slice_get l.directory.names) l.numbers ≡ map Some (spec.all_elements l.name (take l.i l.pieces))
