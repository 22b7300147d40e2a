use Rattle.std.proofs.Common.{subst}
use Rattle.cdl_network.specs.Dependence.{NoLoop}
use Rattle.cdl_connect.specs.Nets.{network_of}
use Rattle.cdl_schedule.proofs.plans.Plan.net.Goals as goal

pub returns-clause-none : goal.returns-clause-none
returns-clause-none c = subst (λ p. NoLoop (network_of p.net)) c.self.view_is c.self.invariant.1
