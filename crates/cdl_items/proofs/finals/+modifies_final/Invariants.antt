use Rattle.std.proofs.Common.{length}
use Rattle.cdl_items.proofs.finals.+modifies_final.Given as goal

abbrev pub decreases-modifies_final : goal.decreases-modifies_final
decreases-modifies_final l = length l.components.now
