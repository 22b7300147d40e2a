use Rattle.std.proofs.Common.{◌≡◌, [], None, take}
use Rattle.cdl_scopes.specs.Classes.{declared}
use Rattle.cdl_classes.specs.inner.Marks.{Marks}
use Rattle.cdl_classes.specs.Places.{least}
use Rattle.cdl_classes.specs.Rules.{named_of, twice_from}
use Rattle.cdl_classes.proofs.duplicates.first_full.Given as goal

abbrev pub invariant-loop-class : goal.invariant-loop-class
invariant-loop-class l =
    Marks (declared l.classes) l.places.classes.items l.places.constants.items (named_of (take l.class (declared l.classes)))
    × (l.first ≡ least None (twice_from [] (named_of (take l.class (declared l.classes)))))
