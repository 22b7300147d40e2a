use Rattle.std.proofs.Common.{◌≡◌, ◌++◌, List, Some, take, drop, ◌-◌, ◌≤◌}
use Rattle.std.specs.List.{slice_get}
use Rattle.cdl_tree.specs.declared.class.FileTree.{FileTree}
use Rattle.cdl_scopes.specs.Classes.{Full, declared}
use Rattle.cdl_scopes.specs.Lookup.{library}
use Rattle.cdl_scopes.specs.inner.Gathered.{IsGathered}
use Rattle.cdl_scopes.specs.Classes.{cut}
use Rattle.cdl_scopes.proofs.Cuts.{onto}
use Rattle.cdl_scopes.proofs.full_name.name_at.Given as goal

abbrev pub invariant-loop-i : goal.invariant-loop-i
invariant-loop-i l =
    (l.start ≤ l.i)
    × ((files : List FileTree) (h : IsGathered files l.all library (declared files))
    → (q : Full) × (slice_get h.names.paths l.scope ≡ Some q) × (cut l.path ≡ q ++ onto (take (l.i - l.start) (drop l.start l.path)) (cut (drop l.i l.path))))
