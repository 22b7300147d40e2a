use Rattle.std.proofs.Common.{◌≡◌, drop, None}
use Rattle.cdl_scopes.specs.Classes.{declared}
use Rattle.cdl_classes.specs.Places.{least}
use Rattle.cdl_classes.specs.Rules.{places_from}
use Rattle.cdl_classes.specs.inner.Kept.{test_of}
use Rattle.cdl_classes.proofs.item_classes.first_item.Given as goal

abbrev pub invariant-loop-index : goal.invariant-loop-index
invariant-loop-index l =
    least l.first (places_from (test_of l.asked (declared l.table)) l.index (drop l.index (declared l.table)))
    ≡ least None (places_from (test_of l.asked (declared l.table)) 0 (declared l.table))
