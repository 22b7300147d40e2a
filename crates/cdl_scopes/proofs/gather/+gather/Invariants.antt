use Rattle.std.proofs.Common.{◌≡◌, ◌++◌, List, Some, take}
use Rattle.std.specs.List.{slice_get}
use Rattle.cdl_tree.specs.declared.class.ClassTree.{ClassTree}
use Rattle.cdl_tree.specs.declared.class.FileTree.{FileTree}
use Rattle.cdl_tree.specs.Parts.{classes_of}
use Rattle.cdl_scopes.specs.Classes.{Declared, Full, declared_all}
use Rattle.cdl_scopes.specs.inner.Gathered.{After, IsGathered, tree_at}
use Rattle.cdl_scopes.proofs.gather.+gather.Given as goal

abbrev pub invariant-gather_all-loop-class : goal.invariant-gather_all-loop-class
invariant-gather_all-loop-class l =
    (l.i ≡ l.class-index) × ((files : List FileTree) (extra : List Full) (ds : List Declared) (q : Full) (h : IsGathered files l.fn.all extra ds) → slice_get h.names.paths l.outer ≡ Some q
    → (tree : ClassTree) → tree_at files l.file l.top l.steps ≡ Some tree → classes_of tree ≡ l.classes
    → After files h.names.paths l.all extra (ds ++ declared_all l.file q (take l.class-index l.classes)))
