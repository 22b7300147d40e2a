use Rattle.std.proofs.Common.{◌≡◌, ℕ, List, [], map, take, drop}
use Rattle.cdl_scopes.specs.Classes.{text_of}
use Rattle.cdl_scopes.specs.Lookup.{first_named}
use Rattle.cdl_scopes.specs.Entries.{entry}
use Rattle.cdl_classes.specs.Places.{least}
use Rattle.cdl_classes.specs.Rules.{again_from, name_ident}
use Rattle.cdl_classes.proofs.duplicates.again_items.Given as goal

abbrev pub invariant-loop-i : goal.invariant-loop-i
invariant-loop-i l =
    ((x : List ℕ) → entry l.seen x ≡ first_named x (map text_of (take l.i (map name_ident l.items))))
    × (least l.first (again_from l.file (map text_of (take l.i (map name_ident l.items))) (drop l.i (map name_ident l.items))) ≡ least l.fn.first (again_from l.file [] (map name_ident l.items)))
