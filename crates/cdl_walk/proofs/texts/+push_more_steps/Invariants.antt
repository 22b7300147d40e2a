use Rattle.std.proofs.Common.{length}
use Rattle.cdl_walk.proofs.texts.+push_more_steps.Given as goal

abbrev pub decreases-push_more_steps : goal.decreases-push_more_steps
decreases-push_more_steps l = length l.steps.now
