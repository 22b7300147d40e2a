use Rattle.std.proofs.Common.{List, Option, sym, subst}
use Rattle.cdl_tree.specs.declared.class.FileTree.{FileTree}
use Rattle.cdl_classes.specs.declared.found.Found.{Found}
use Rattle.cdl_scopes.specs.Classes.{declared, parts_of}
use Rattle.cdl_classes.specs.Rules.{IsKnown}
use Rattle.cdl_classes.proofs.Items.{known_meaning}
use Rattle.cdl_classes.proofs.table.ClassTable.resolve.Goals as goal

pub returns-clause-known : goal.returns-clause-known
returns-clause-known c =
    let P : Option Found → Type 0 = λ o. IsKnown (declared c.self.inside.declarations) o in
    let Q : List FileTree → Type 0 = λ fs. IsKnown (declared fs) c.resolve.result in
    subst Q c.self.view_is (subst P (sym c.resolve.ensures) (known_meaning (declared c.self.inside.declarations) c.args.scope.index (parts_of c.args.name.now)))
