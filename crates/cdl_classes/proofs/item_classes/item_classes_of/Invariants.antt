use Rattle.std.proofs.Common.{◌≡◌, map, take}
use Rattle.cdl_scopes.specs.Classes.{declared}
use Rattle.cdl_classes.specs.Rules.{class_of}
use Rattle.cdl_classes.proofs.item_classes.item_classes_of.Given as goal

abbrev pub invariant-loop-item : goal.invariant-loop-item
invariant-loop-item l = l.row.items ≡ map (class_of (declared l.table) l.class.index) (take l.item-index l.items)
