use Rattle.std.proofs.Common.{length}
use Rattle.cdl_eval.proofs.place.+same_steps.Given as goal

abbrev pub decreases-same_steps : goal.decreases-same_steps
decreases-same_steps l = length l.left.now
