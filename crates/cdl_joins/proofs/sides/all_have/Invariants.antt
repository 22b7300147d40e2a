use Rattle.std.proofs.Common.{◌≡◌, drop}
use Rattle.cdl_joins.specs.Sides as spec
use Rattle.cdl_joins.specs.inner.Seen.{connector_seen}
use Rattle.cdl_joins.proofs.sides.all_have.Given as goal

abbrev pub invariant-loop-i : goal.invariant-loop-i
invariant-loop-i l = record {
  kept : l.e ≡ l.fn.e;
  so_far : spec.all_have l.fn.e (connector_seen l.connector) (drop l.i l.paths) ≡ spec.all_have l.fn.e (connector_seen l.connector) l.paths;
}
