-- Where a name is sought next: scopes that have but one name, which is no class, are passed over at once.
use Rattle.std.specs.Prelude.{◌≡◌, ◌<◌, ℕ, Bool, false, List, take, length, Some, None, slice_get, unwrap_or}
use Rattle.cdl_tree.specs.declared.class.FileTree.{FileTree}
use Rattle.cdl_scopes.specs.declared.gather.Classes.{Classes}
use Rattle.cdl_scopes.specs.declared.scopes.Outwards.{Outwards}
use Rattle.cdl_scopes.specs.declared.lookup.Sought.{Sought}
use Rattle.cdl_scopes.specs.Classes.{Full, Declared, declared}
use Rattle.cdl_scopes.specs.Lookup.{library, in_library, has, seek}
use Rattle.cdl_scopes.specs.Entries.{entry}
use Rattle.cdl_scopes.specs.inner.Gathered.{IsGathered}

-- the scope at which this name is sought next
abbrev pub next_for : Outwards → List ℕ → ℕ
next_for o x = unwrap_or (entry o.row x) o.next

-- a scope of those around the one with this full name, where what is sought in it is what is sought in the name's own
abbrev pub SoughtAt : List Declared → List Full → Full → ℕ → Sought → List ℕ → Type 0
SoughtAt ds paths q n sought x = (j : ℕ) × (j < length q) × (slice_get paths n ≡ Some (take j q)) × (seek ds sought q (length q) x ≡ seek ds sought q j x)

-- no scope that is passed over has the name
abbrev pub Passes : List Declared → List Full → Full → Outwards → Type 0
Passes ds paths q o = (sought : Sought) (x : List ℕ) → has ds sought q x ≡ None → SoughtAt ds paths q (next_for o x) sought x

-- what is kept of each scope: where what it lacks is sought next
pub record AreOutwards (files : List FileTree) (all : Classes) (os : List Outwards) : Type 0 where
  pub size : length os ≡ length all.nodes.items
  pub lower : (n : ℕ) (o : Outwards) (x : List ℕ) → slice_get os n ≡ Some o → 0 < n → next_for o x < n
  pub each : (h : IsGathered files all library (declared files)) (n : ℕ) (o : Outwards) (q : Full) → slice_get os n ≡ Some o → slice_get h.names.paths n ≡ Some q → 0 < n → in_library q ≡ false
      → Passes (declared files) h.names.paths q o

-- what is kept of each scope: whether it is one of the library's packages or lies under one
abbrev pub AreInLibrary : List FileTree → Classes → List Bool → Type 0
AreInLibrary files all flags = (h : IsGathered files all library (declared files)) (n : ℕ) (q : Full) → slice_get h.names.paths n ≡ Some q → slice_get flags n ≡ Some (in_library q)
