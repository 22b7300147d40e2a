use Rattle.std.proofs.Common.{List, true, ◌≡◌, subst}
use Rattle.std.specs.List.{list_all}
use Rattle.cdl_source.specs.declared.limits.TheConstants.{MOST_LINKS}
use Rattle.cdl_tree.specs.declared.class.FileTree.{FileTree}
use Rattle.cdl_tree.specs.FormedFiles.{formed_file}
use Rattle.cdl_scopes.specs.Classes.{declared}
use Rattle.cdl_classes.specs.Verdict.{IsUnbroken}
use Rattle.cdl_params.specs.Kept.{classes}
use Rattle.cdl_expand.proofs.expanding.classes_are_kept.Goals as goal

pub returns-clause-names : goal.returns-clause-names
returns-clause-names c = c.declared_names_are_apart.ensures c.args.e.now (subst (λ (fs : List FileTree). IsUnbroken (declared fs)) c.table.ensures c.len-classes.ensures.unbroken).twice

pub returns-clause-formed : goal.returns-clause-formed
returns-clause-formed c = subst (λ (fs : List FileTree). list_all formed_file fs ≡ true) c.table.ensures c.len-classes.ensures.formed

pub returns-clause-units : goal.returns-clause-units
returns-clause-units c = λ p x.
    c.texts_are_utf8.ensures.unit (classes c.args.e.now) MOST_LINKS c.args.e.now.root p x
    (c.declared_classes_are_formed.ensures c.args.e.now.files (subst (λ (fs : List FileTree). list_all formed_file fs ≡ true) c.table.ensures c.len-classes.ensures.formed))
