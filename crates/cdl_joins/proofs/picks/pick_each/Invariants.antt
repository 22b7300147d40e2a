use Rattle.std.proofs.Common.{◌≡◌, drop}
use Rattle.cdl_joins.specs.Integers.{integer}
use Rattle.cdl_joins.specs.Picks as spec
use Rattle.cdl_joins.proofs.Behind.{behind}
use Rattle.cdl_joins.proofs.picks.pick_each.Given as goal

abbrev pub invariant-loop-i : goal.invariant-loop-i
invariant-loop-i l = record {
  kept : l.e ≡ l.fn.e;
  so_far : behind l.picks (spec.pick_each (integer l.fn.e l.site.path.now l.site.locals.now) (drop l.i l.sizes) (drop l.i l.subs)) ≡ spec.pick_each (integer l.fn.e l.site.path.now l.site.locals.now) l.sizes l.subs;
}
