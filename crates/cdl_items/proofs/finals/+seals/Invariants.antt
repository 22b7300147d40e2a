use Rattle.std.proofs.Common.{length}
use Rattle.cdl_items.proofs.finals.+seals.Given as goal

abbrev pub decreases-seals : goal.decreases-seals
decreases-seals l = length l.inner.now
