use Rattle.std.proofs.Common.{◌≡◌, drop}
use Rattle.cdl_joins.specs.Sides as spec
use Rattle.cdl_joins.specs.inner.Seen.{end_seen}
use Rattle.cdl_joins.proofs.Behind.{behind}
use Rattle.cdl_joins.proofs.sides.select_pieces.Given as goal

abbrev pub invariant-loop-i : goal.invariant-loop-i
invariant-loop-i l = record {
  kept : l.e ≡ l.fn.e;
  so_far : behind l.pieces (spec.pieces l.fn.e l.site.path.now l.site.locals.now (end_seen l.end) (drop l.i l.paths)) ≡ spec.pieces l.fn.e l.site.path.now l.site.locals.now (end_seen l.end) l.paths;
}
