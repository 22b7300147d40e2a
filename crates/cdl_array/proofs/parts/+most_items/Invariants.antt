use Rattle.std.proofs.Common.{length}
use Rattle.cdl_array.proofs.parts.+most_items.Given as goal

abbrev pub decreases-most_items : goal.decreases-most_items
decreases-most_items l = length l.shape.now
