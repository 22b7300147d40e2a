use Rattle.std.proofs.Common.{length}
use Rattle.cdl_joins.proofs.picks.+indices.Given as goal

abbrev pub decreases-indices : goal.decreases-indices
decreases-indices l = length l.picks.now
