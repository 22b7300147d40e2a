use Rattle.std.proofs.Common.{◌≡◌, Some, drop}
use Rattle.std.specs.List.{slice_get}
use Rattle.cdl_scopes.specs.Classes.{Declared, declared, full}
use Rattle.cdl_classes.specs.Places.{least}
use Rattle.cdl_classes.specs.Rules.{taken_constants}
use Rattle.cdl_classes.proofs.free_names.with_constants.Given as goal

abbrev pub invariant-loop-item : goal.invariant-loop-item
invariant-loop-item l =
    (d : Declared) → slice_get (declared l.classes) l.class ≡ Some d
    → least l.first (taken_constants (declared l.classes) l.file (full d) (drop l.item-index l.items)) ≡ least l.fn.first (taken_constants (declared l.classes) l.file (full d) l.items)
