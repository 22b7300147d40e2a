use Rattle.std.proofs.Common.{◌≡◌, ◌∙◌, Option, None, List, map, get_or, length, ap, arith}
use Rattle.std.proofs.lemmas.List.{length-map}
use Rattle.cdl_classes.specs.declared.found.Found.{Found}
use Rattle.cdl_scopes.specs.Classes.{declared}
use Rattle.cdl_classes.specs.Rules.{class_of}
use Rattle.cdl_classes.proofs.ItemClasses.{mapped_or}
use Rattle.cdl_classes.proofs.item_classes.with_items.Goals as goal

pub bounds-row-i : goal.bounds-row-i
bounds-row-i c =
    let size : length c.args.row.now ≡ length (map (class_of (declared c.args.table.now) c.args.class.index) c.args.items.now) = ap length c.requires in
    omega (arith, size, length-map c.args.items.now (class_of (declared c.args.table.now) c.args.class.index))

pub with_item-first-requires : goal.with_item-first-requires
with_item-first-requires c =
    ap (λ (r : List (Option Found)). get_or r c.loop-i.i None) c.requires
    ∙ mapped_or (class_of (declared c.args.table.now) c.args.class.index) c.args.items.now c.loop-i.i c.index-items-i.result None (omega arith) c.index-items-i.is
