use Rattle.std.proofs.Common.{◌≡◌}
use Rattle.cdl_stations.specs.Keys.{upto}
use Rattle.cdl_stations.specs.Runs.{Went}
use Rattle.cdl_statements.specs.Events.{step}
use Rattle.cdl_statements.specs.inner.Seen.{made}
use Rattle.cdl_statements.specs.Stations as spec
use Rattle.cdl_statements.proofs.running.all.Given as goal

abbrev pub invariant-loop-i : goal.invariant-loop-i
invariant-loop-i l = record {
  kept : l.e ≡ l.fn.e;
  went : Went step (upto (spec.InModel l.fn.e l.instances) l.i) (made l.directory l.fn.net) (made l.directory l.net);
}
