use Rattle.std.proofs.Common.{length}
use Rattle.cdl_items.proofs.finals.+is_sealed.Given as goal

abbrev pub decreases-is_sealed : goal.decreases-is_sealed
decreases-is_sealed l = length l.components.now
