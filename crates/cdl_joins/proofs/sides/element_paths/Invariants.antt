use Rattle.std.proofs.Common.{◌≡◌, map}
use Rattle.cdl_joins.specs.Sides as spec
use Rattle.cdl_joins.proofs.sides.element_paths.Given as goal

abbrev pub invariant-loop-indices : goal.invariant-loop-indices
invariant-loop-indices l = l.paths ≡ map (spec.element_path l.path l.name) l.yielded
