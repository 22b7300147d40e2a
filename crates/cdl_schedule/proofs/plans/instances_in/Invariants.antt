use Rattle.std.proofs.Common.{length}
use Rattle.cdl_connect.specs.Nets.{network_of}
use Rattle.cdl_schedule.specs.inner.Listed.{Listed}
use Rattle.cdl_schedule.proofs.plans.instances_in.Given as goal

abbrev pub invariant-loop-t : goal.invariant-loop-t
invariant-loop-t l = Listed (network_of l.net).elementary (length l.net.elements) l.order l.t l.list.items
