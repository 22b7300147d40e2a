use Rattle.std.proofs.Common.{◌≡◌, length}
use Rattle.cdl_scopes.specs.Classes.{declared}
use Rattle.cdl_classes.proofs.ItemClasses.{Rows}
use Rattle.cdl_classes.proofs.item_classes.item_classes.Given as goal

abbrev pub invariant-loop-index : goal.invariant-loop-index
invariant-loop-index l = (l.index ≡ length l.rows.items) × Rows (declared l.table) l.rows.items
