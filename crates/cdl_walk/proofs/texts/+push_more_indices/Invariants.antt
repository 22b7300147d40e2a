use Rattle.std.proofs.Common.{length}
use Rattle.cdl_walk.proofs.texts.+push_more_indices.Given as goal

abbrev pub decreases-push_more_indices : goal.decreases-push_more_indices
decreases-push_more_indices l = length l.indices.now
