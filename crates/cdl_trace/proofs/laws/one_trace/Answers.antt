use Rattle.cdl_trace.proofs.Traces.{one_trace}
use Rattle.cdl_trace.proofs.laws.one_trace.Goals as goal

pub returns : goal.returns
returns g c s rows f h t u a b = one_trace s rows f h t u a b
