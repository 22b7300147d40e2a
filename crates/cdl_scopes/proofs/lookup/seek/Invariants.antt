use Rattle.std.proofs.Common.{◌≡◌, ◌≤◌, ℕ, false, Some, take, length}
use Rattle.std.specs.List.{slice_get}
use Rattle.cdl_scopes.specs.Classes.{Full, declared}
use Rattle.cdl_scopes.specs.Lookup.{in_library, seek}
use Rattle.cdl_scopes.specs.inner.Known.{Known}
use Rattle.cdl_scopes.proofs.lookup.seek.Given as goal

abbrev pub invariant-loop-scope : goal.invariant-loop-scope
invariant-loop-scope l =
    (h : Known l.files l.all) (q : Full) → slice_get h.gathered.names.paths l.outer ≡ Some q → in_library q ≡ false
    → (k : ℕ) × (k ≤ length q) × (slice_get h.gathered.names.paths l.scope ≡ Some (take k q))
    × (seek (declared l.files) l.sought q k l.part ≡ seek (declared l.files) l.sought q (length q) l.part)

abbrev pub decreases-loop-scope : goal.decreases-loop-scope
decreases-loop-scope l = l.scope
