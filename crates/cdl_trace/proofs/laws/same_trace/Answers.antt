use Rattle.cdl_trace.proofs.Renaming.{ends_under}
use Rattle.cdl_trace.proofs.Traces.{sole}
use Rattle.cdl_trace.proofs.laws.same_trace.Goals as goal

pub returns : goal.returns
returns g c a b m n rows fault text k z d h r p x e = ends_under a b m n rows fault text (sole m.network k z d h) (record { closed = k; renamed = r; path = p; name = x }) e
