use Rattle.std.proofs.Common.{◌≡◌, ◌<◌, ℕ, List, false, Some, None}
use Rattle.std.specs.Prelude.{unwrap_or}
use Rattle.std.specs.List.{slice_get}
use Rattle.cdl_scopes.specs.declared.lookup.Sought.{Sought}
use Rattle.cdl_scopes.specs.Classes.{Full, declared}
use Rattle.cdl_scopes.specs.Lookup.{library, in_library, has}
use Rattle.cdl_scopes.specs.inner.Gathered.{IsGathered}
use Rattle.cdl_scopes.specs.Entries.{entry}
use Rattle.cdl_scopes.specs.inner.Outwards.{SoughtAt}
use Rattle.cdl_scopes.proofs.scopes.outwards_of.Given as goal

abbrev pub invariant-loop-name : goal.invariant-loop-name
invariant-loop-name l =
    ((x : List ℕ) → 0 < l.scope → unwrap_or (entry l.row x) l.next < l.scope)
    × ((h : IsGathered l.files l.all library (declared l.files)) (q : Full) → slice_get h.names.paths l.scope ≡ Some q → 0 < l.scope → in_library q ≡ false
    → (sought : Sought) (x : List ℕ) → has (declared l.files) sought q x ≡ None → SoughtAt (declared l.files) h.names.paths q (unwrap_or (entry l.row x) l.next) sought x)

abbrev pub decreases-loop-name : goal.decreases-loop-name
decreases-loop-name l = l.next
