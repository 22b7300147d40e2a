-- What an order of vertices is, and the least one on a loop.
use Rattle.std.specs.Prelude.{ℕ, ◌<◌, ◌≡◌, false, List, length, get_or}
use Rattle.cdl_search.specs.Walks.{OnLoop}
use Rattle.cdl_search.specs.declared.search.Search.{Search}
use Rattle.cdl_search.specs.declared.order.SearchFault.{SearchFault}
use Rattle.cdl_search.specs.declared.order.SearchFault.TheVariants.{Loop, OutOfMemory}

-- All of n vertices, each once, and each behind all that determines it.
pub record IsOrder (D : ℕ → ℕ → Type 0) (n : ℕ) (xs : List ℕ) : Type 0 where
  pub each : (v : ℕ) → v < n → (j : ℕ) × (j < length xs) × (get_or xs j 0 ≡ v)
  pub inside : (j : ℕ) → j < length xs → get_or xs j 0 < n
  pub once : (i j : ℕ) → i < j → j < length xs → get_or xs i 0 ≡ get_or xs j 0 → ⊥
  pub behind : (j u : ℕ) → j < length xs → D u (get_or xs j 0) → (i : ℕ) × (i < j) × (get_or xs i 0 ≡ u)

abbrev pub IsSearchFault : (ℕ → ℕ → Type 0) → ℕ → SearchFault → Type 0
IsSearchFault D n (Loop v) = (v < n) × OnLoop D v × ((w : ℕ) → w < v → OnLoop D w → ⊥)
IsSearchFault D n OutOfMemory = Unit {0}

-- a search that has found nothing yet
pub record IsBegun (n : ℕ) (s : Search) : Type 0 where
  pub marks : length s.marks.items ≡ n
  pub looped : length s.looped.items ≡ n
  pub new : (v : ℕ) → get_or s.marks.items v 0 ≡ 0
  pub down : (v : ℕ) → get_or s.looped.items v false ≡ false
  pub held : length s.held.items ≡ 0
  pub todo : length s.todo.items ≡ 0
  pub starts : length s.starts.items ≡ 0
  pub owed : length s.owed.items ≡ 0
  pub order : length s.order.items ≡ 0
