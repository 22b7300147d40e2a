use Rattle.std.proofs.Common.{length}
use Rattle.cdl_items.proofs.finals.+gives.Given as goal

abbrev pub decreases-gives : goal.decreases-gives
decreases-gives l = length l.inner.now
