use Rattle.std.proofs.Common.{◌≡◌, ◌++◌, take, map, Some}
use Rattle.std.specs.List.{slice_get}
use Rattle.cdl_joins.specs.Sides as spec
use Rattle.cdl_statements.proofs.net.push_numbers.Given as goal

abbrev pub invariant-loop-i : goal.invariant-loop-i
invariant-loop-i l = map (slice_get l.directory.names) l.numbers ≡ map (slice_get l.directory.names) l.fn.numbers ++ map Some (map (spec.element l.path l.name) (take l.i l.rows))
