use Rattle.std.proofs.Common.{◌≡◌}
use Rattle.cdl_stations.specs.Keys.{upto}
use Rattle.cdl_stations.specs.Runs.{Went}
use Rattle.cdl_statements.specs.Events.{step}
use Rattle.cdl_statements.specs.inner.Seen.{made, scope_seen}
use Rattle.cdl_statements.specs.Stations as spec
use Rattle.cdl_statements.proofs.running.+body.Given as goal

abbrev pub invariant-body-loop-i : goal.invariant-body-loop-i
invariant-body-loop-i l = record {
  kept : l.e ≡ l.fn.e;
  same : l.locals ≡ l.fn.locals;
  went : Went step (upto (spec.InBody l.fn.e (scope_seen l.scope) l.fn.locals l.statements) l.i) (made l.directory l.fn.net) (made l.directory l.net);
}

abbrev pub invariant-looped-loop-t : goal.invariant-looped-loop-t
invariant-looped-loop-t l = record {
  kept : l.e ≡ l.fn.e;
  same : l.locals ≡ l.fn.locals;
  went : Went step (upto (spec.InLoop l.fn.e (scope_seen l.scope) l.fn.locals l.outer) l.t) (made l.directory l.fn.net) (made l.directory l.net);
}
