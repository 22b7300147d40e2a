use Rattle.std.proofs.Common.{◌≡◌, ℕ, [], Option, Some, None, Vec, length}
use Rattle.std.specs.declared.alloc.Global.{Global}
use Rattle.std.specs.BTreeMap.{BTreeMap}
use Rattle.std.specs.List.{slice_get}
use Rattle.cdl_source.specs.declared.place.Place.{Place}
use Rattle.cdl_classes.proofs.duplicates.no_places.Given as goal

abbrev pub invariant-loop : goal.invariant-loop
invariant-loop l =
    (length l.classes.items ≡ l.counter) × (length l.constants.items ≡ l.counter) × ((n : ℕ) (o : Option Place) → slice_get l.classes.items n ≡ Some o → o ≡ None)
    × ((n : ℕ) (m : BTreeMap (Vec ℕ Global) Place) → slice_get l.constants.items n ≡ Some m → m.entries ≡ [])
