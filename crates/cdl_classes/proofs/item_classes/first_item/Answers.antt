use Rattle.std.proofs.Common.{◌≡◌, ◌∙◌, ◌+◌, Some, ap, drop, refl, arith}
use Rattle.std.specs.List.{slice_get}
use Rattle.std.proofs.lemmas.Option.{slice_get_read}
use Rattle.cdl_classes.proofs.ItemClasses.{row_is}
use Rattle.cdl_scopes.specs.Classes.{declared}
use Rattle.cdl_classes.specs.Places.{least}
use Rattle.cdl_classes.specs.Rules.{places_from}
use Rattle.cdl_classes.specs.inner.Kept.{test_of}
use Rattle.cdl_classes.proofs.Items.{next_class}
use Rattle.cdl_classes.proofs.item_classes.first_item.Goals as goal

pub loop-index-preserved : goal.loop-index-preserved
loop-index-preserved c =
    let ds = declared c.args.table.now in
    ap (λ first. least first (places_from (test_of c.args.asked ds) (c.loop-index.index + 1) (drop (c.loop-index.index + 1) ds))) c.with_items-first.ensures
    ∙ next_class (test_of c.args.asked ds) ds c.loop-index.index c.file.result c.tree.result.now c.items.result.now c.loop-index.first c.file.ensures c.tree.ensures c.items.ensures
    ∙ c.loop-index.invariant

pub bounds-rows-index : goal.bounds-rows-index
bounds-rows-index c = omega (arith, c.requires.size, c.len-index-end.ensures.count)

pub with_items-first-requires : goal.with_items-first-requires
with_items-first-requires c =
    let here : slice_get c.args.rows.now c.loop-index.index ≡ Some c.index-rows-index.result =
    slice_get_read c.args.rows.now _ c.loop-index.index c.index-rows-index.result refl (omega (arith, c.requires.size, c.len-index-end.ensures.count)) c.index-rows-index.is in
    row_is (declared c.args.table.now) c.args.rows.now c.loop-index.index c.tree.result.now c.items.result.now c.index-rows-index.result c.as_slice.result.now c.requires c.tree.ensures c.items.ensures here c.as_slice.ensures.value
