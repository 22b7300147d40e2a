use Rattle.std.proofs.Common.{◌≡◌, ◌++◌, List, Some, map, take}
use Rattle.std.specs.List.{slice_get}
use Rattle.cdl_scopes.specs.Classes.{Declared, declared, full}
use Rattle.cdl_scopes.specs.Lookup.{first_of}
use Rattle.cdl_classes.specs.inner.Marks.{Marks}
use Rattle.cdl_classes.specs.Places.{least}
use Rattle.cdl_classes.specs.Rules.{Named, constant_named, twice_from}
use Rattle.cdl_classes.proofs.duplicates.mark_constants.Given as goal

abbrev pub invariant-loop-item : goal.invariant-loop-item
invariant-loop-item l =
    (ns : List Named) (d : Declared) → Marks (declared l.classes) l.fn.places.classes.items l.fn.places.constants.items ns → slice_get (declared l.classes) l.class ≡ Some d
    → first_of (full d) (declared l.classes) ≡ Some l.owner → l.file ≡ d.file
    → Marks (declared l.classes) l.places.classes.items l.places.constants.items (ns ++ map (constant_named d) (take l.item-index l.items))
    × (l.first ≡ least l.fn.first (twice_from ns (map (constant_named d) (take l.item-index l.items))))
