use Rattle.std.proofs.Common.{◌≡◌, take}
use Rattle.cdl_scopes.specs.Classes.{declared}
use Rattle.cdl_scopes.specs.Lookup.{library}
use Rattle.cdl_scopes.specs.inner.Gathered.{IsGathered}
use Rattle.cdl_scopes.proofs.gather.gather_files.Given as goal

abbrev pub invariant-loop-tree : goal.invariant-loop-tree
invariant-loop-tree l = (l.file ≡ l.tree-index) × IsGathered l.files l.all library (declared (take l.tree-index l.files))
