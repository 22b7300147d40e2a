use Rattle.std.proofs.Common.{◌≡◌, map, drop}
use Rattle.cdl_classes.specs.Places.{least}
use Rattle.cdl_classes.specs.Rules.{type_names, name_ident}
use Rattle.cdl_classes.proofs.free_names.with_items.Given as goal

abbrev pub invariant-loop-item : goal.invariant-loop-item
invariant-loop-item l = least l.first (type_names l.file (map name_ident (drop l.item-index l.items))) ≡ least l.fn.first (type_names l.file (map name_ident l.items))
