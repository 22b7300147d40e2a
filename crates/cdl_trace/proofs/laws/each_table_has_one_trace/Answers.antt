use Rattle.cdl_trace.proofs.Traces.{sole, some_end}
use Rattle.cdl_trace.proofs.laws.each_table_has_one_trace.Goals as goal

pub returns : goal.returns
returns g c s rows k z d a = some_end s rows (sole s.network k z d a)
