use Rattle.std.proofs.Common.{◌≡◌, List, Some, take}
use Rattle.std.specs.List.{slice_get}
use Rattle.cdl_tree.specs.declared.class.FileTree.{FileTree}
use Rattle.cdl_scopes.specs.Classes.{Declared, declared_all, within_of}
use Rattle.cdl_scopes.specs.Lookup.{library}
use Rattle.cdl_scopes.specs.inner.Gathered.{FileSoFar, IsGathered}
use Rattle.cdl_scopes.proofs.gather.gather_file.Given as goal

abbrev pub invariant-loop-class : goal.invariant-loop-class
invariant-loop-class l =
    (l.top ≡ l.class-index) × ((files : List FileTree) (ds : List Declared) (h : IsGathered files l.fn.all library ds) → slice_get files l.file ≡ Some l.tree
    → FileSoFar files h.names.paths l.all ds (declared_all l.file (within_of l.tree.within) (take l.class-index l.classes)) l.outer (within_of l.tree.within))
