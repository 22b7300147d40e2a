use Rattle.std.proofs.Common.{◌≡◌, drop}
use Rattle.cdl_scopes.specs.Classes.{declared}
use Rattle.cdl_classes.specs.Places.{least}
use Rattle.cdl_classes.specs.Rules.{places_in}
use Rattle.cdl_classes.specs.inner.Kept.{test_of}
use Rattle.cdl_classes.proofs.item_classes.with_items.Given as goal

abbrev pub invariant-loop-i : goal.invariant-loop-i
invariant-loop-i l =
    least l.first (places_in (test_of l.asked (declared l.table)) l.class.index l.file (drop l.i l.items))
    ≡ least l.fn.first (places_in (test_of l.asked (declared l.table)) l.class.index l.file l.items)
