use Rattle.std.proofs.Common.{List, Option, Vec, length, sym, ap, subst, arith, length-append}
use Rattle.std.specs.declared.alloc.Global.{Global}
use Rattle.cdl_classes.specs.declared.found.Found.{Found}
use Rattle.cdl_scopes.specs.Classes.{declared}
use Rattle.cdl_classes.proofs.ItemClasses.{Rows, rows_more}
use Rattle.cdl_classes.proofs.item_classes.item_classes.Goals as goal

pub loop-index-preserved : goal.loop-index-preserved
loop-index-preserved c =
    let ds = declared c.args.table.now in
    let P : List (Vec (Option Found) Global) → Type 0 = λ rows. Rows ds rows in (
      omega (arith, c.loop-index.invariant.0, ap length c.in_ok-push.ensures.items, length-append {A = Vec (Option Found) Global}),
      subst P (sym c.in_ok-push.ensures.items)
          (rows_more ds c.loop-index.rows.items c.loop-index.index c.tree.result.now c.items-items.result.now c.in_ok-item_classes_of.field-0 c.loop-index.invariant.0 c.tree.ensures c.items-items.ensures
          c.in_ok-item_classes_of.ensures c.loop-index.invariant.1),
    )

pub returns : goal.returns
returns c = record { size = omega (arith, c.loop-index.invariant.0); each = c.loop-index.invariant.1 }
