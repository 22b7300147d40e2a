use Rattle.cdl_schedule.specs.inner.Rows.{AreSources}
use Rattle.cdl_schedule.proofs.rows.sources.Given as goal

abbrev pub invariant-loop-k : goal.invariant-loop-k
invariant-loop-k l = AreSources l.net l.k l.sources.items
