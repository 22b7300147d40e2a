use Rattle.std.proofs.Common.{◌∙◌, List, sym, subst}
use Rattle.std.specs.Prelude.{IfSome}
use Rattle.cdl_tree.specs.declared.class.FileTree.{FileTree}
use Rattle.cdl_scopes.specs.Classes.{declared, parts_of}
use Rattle.cdl_classes.specs.Table.{IsValue}
use Rattle.cdl_classes.proofs.Answers.{if_some, value_known}
use Rattle.cdl_classes.proofs.table.ClassTable.resolve_value.Goals as goal

pub returns-clause-known : goal.returns-clause-known
returns-clause-known c =
    let Q : List FileTree → Type 0 = λ fs. IfSome c.resolve_value.result (IsValue (declared fs)) in
    subst Q c.self.view_is (if_some c.resolve_value.result (IsValue (declared c.self.inside.declarations))
    (λ v e. value_known (declared c.self.inside.declarations) c.args.scope.index (parts_of c.args.name.now) v (sym c.resolve_value.ensures ∙ e)))
