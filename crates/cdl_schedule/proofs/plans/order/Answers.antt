use Rattle.std.proofs.Common.{subst}
use Rattle.cdl_network.specs.Dependence.{NoLoop}
use Rattle.cdl_connect.specs.Nets.{network_of}
use Rattle.cdl_schedule.specs.Passes.{IsPass}
use Rattle.cdl_schedule.specs.Plans.{IsPlan}
use Rattle.cdl_schedule.proofs.plans.order.Goals as goal

pub invariant_of-result : goal.invariant_of-result
invariant_of-result c = subst (λ n. IsPlan n c.in-Ok.parts.list.items × NoLoop (network_of n) × IsPass n c.in-Ok.parts.steps.items) c.net.ensures.same (c.in-Ok.ensures.plan, c.in-Ok.ensures.none, c.in-Ok.ensures.pass)

pub returns-in-Ok-clause-none : goal.returns-in-Ok-clause-none
returns-in-Ok-clause-none c = subst (λ n. NoLoop (network_of n)) c.net.ensures.same c.in-Ok.ensures.none
