use Rattle.cdl_check.proofs.FirstRule.{unbroken_accepted}
use Rattle.cdl_check.proofs.plans.ordered.Goals as goal

pub returns-in-Ok-clause-accepted : goal.returns-in-Ok-clause-accepted
returns-in-Ok-clause-accepted c = unbroken_accepted c.args.net c.net-net.ensures.checked.unbroken c.in-Ok.ensures.none
