use Rattle.std.proofs.Common.{Option, sym, subst}
use Rattle.cdl_classes.specs.declared.found.Found.{Found}
use Rattle.cdl_scopes.specs.Classes.{declared, parts_of}
use Rattle.cdl_classes.specs.Rules.{IsKnown}
use Rattle.cdl_classes.proofs.Items.{known_meaning}
use Rattle.cdl_classes.proofs.item_classes.is_broken.Goals as goal

pub is_supported-requires : goal.is_supported-requires
is_supported-requires c =
    let P : Option Found → Type 0 = λ o. IsKnown (declared c.args.table.now) o in
    subst P (sym c.requires) (known_meaning (declared c.args.table.now) c.args.class.index (parts_of c.args.item.now.class))
