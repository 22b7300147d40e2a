use Rattle.std.proofs.Common.{◌≡◌}
use Rattle.cdl_walk.specs.Elements as spec
use Rattle.cdl_walk.proofs.elements.points.Given as goal

abbrev pub invariant-loop-k : goal.invariant-loop-k
invariant-loop-k l = l.all ≡ spec.tabulate l.k (spec.point_at l.connector.name.now l.connector.value_type l.connector.input l.connector.sizes.now l.connector.units.now)
