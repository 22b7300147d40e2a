use Rattle.std.proofs.Common.{◌∙◌, List, sym, subst}
use Rattle.std.specs.Prelude.{IfSome}
use Rattle.cdl_tree.specs.declared.class.FileTree.{FileTree}
use Rattle.cdl_scopes.specs.declared.lookup.ClassSort.TheVariants as sort
use Rattle.cdl_scopes.specs.Classes.{declared}
use Rattle.cdl_classes.specs.Table.{IsOf}
use Rattle.cdl_scopes.specs.Classes.{cut}
use Rattle.cdl_classes.proofs.Answers.{if_some, block_known}
use Rattle.cdl_classes.proofs.table.ClassTable.root.Goals as goal

pub returns-clause-known : goal.returns-clause-known
returns-clause-known c =
    let Q : List FileTree → Type 0 = λ fs. IfSome c.root.result (IsOf (declared fs) sort.Block) in
    subst Q c.self.view_is (if_some c.root.result (IsOf (declared c.self.inside.declarations) sort.Block)
    (λ v e. block_known (declared c.self.inside.declarations) (cut c.args.name.now) v (sym c.root.ensures ∙ e)))
