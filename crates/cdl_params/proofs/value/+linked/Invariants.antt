use Rattle.std.proofs.Common.{length}
use Rattle.cdl_eval.specs.Places.{weight}
use Rattle.cdl_params.proofs.value.+linked.Given as goal

abbrev pub decreases-linked : goal.decreases-linked
decreases-linked l = weight l.links (length l.steps.now)
