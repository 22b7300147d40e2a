use Rattle.std.proofs.Common.{◌∙◌, ◌++◌, ◌∷◌, [], Option, List, map, ap, arith}
use Rattle.cdl_classes.specs.declared.found.Found.{Found}
use Rattle.cdl_scopes.specs.Classes.{declared}
use Rattle.cdl_classes.specs.Rules.{class_of}
use Rattle.cdl_scopes.proofs.Walk.{take_whole}
use Rattle.cdl_classes.proofs.ItemClasses.{mapped_more}
use Rattle.cdl_classes.proofs.item_classes.item_classes_of.Goals as goal

pub loop-item-preserved : goal.loop-item-preserved
loop-item-preserved c =
    c.in_ok-push.ensures.items ∙ ap (λ (r : List (Option Found)). r ++ c.resolve.result ∷ []) c.loop-item.invariant
    ∙ mapped_more (class_of (declared c.args.table.now) c.args.class.index) c.args.items.now c.loop-item.item-index c.item-item.result c.resolve.result (omega arith) c.item-item.is c.resolve.ensures

pub returns : goal.returns
returns c = c.loop-item.invariant ∙ ap (map (class_of (declared c.args.table.now) c.args.class.index)) (take_whole c.loop-item.item-index c.args.items.now (omega arith))
