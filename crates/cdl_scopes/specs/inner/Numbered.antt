-- Full names that have numbers: what the nodes of a tree of names stand for.
use Rattle.std.specs.Prelude.{◌≡◌, ◌<◌, ℕ, true, List, [], ◌∷◌, ◌++◌, Option, Some, length, slice_get}
use Rattle.std.specs.List.{list_any, list_all}
use Rattle.cdl_scopes.specs.declared.names.Node.{Node}
use Rattle.cdl_scopes.specs.Classes.{Full, is_front}
use Rattle.cdl_scopes.specs.Entries.{entry}

abbrev pub child : Node → List ℕ → Option ℕ
child node x = entry node.children x

-- a node, and the node of the scope around it
abbrev pub Inside : List Full → ℕ → ℕ → Full → Type 0
Inside paths parent n q = (p : Full) × (x : List ℕ) × (q ≡ p ++ x ∷ []) × (slice_get paths parent ≡ Some p) × (parent < n)

-- node n stands for the n-th of these full names; the first is the top
pub record Numbers (nodes : List Node) (paths : List Full) : Type 0 where
  pub size : length nodes ≡ length paths
  pub top : slice_get paths 0 ≡ Some []
  pub found : (n m : ℕ) (node : Node) (q : Full) (x : List ℕ) → slice_get nodes n ≡ Some node → slice_get paths n ≡ Some q → child node x ≡ Some m → slice_get paths m ≡ Some (q ++ x ∷ [])
  pub finds : (n m : ℕ) (node : Node) (q : Full) (x : List ℕ) → slice_get nodes n ≡ Some node → slice_get paths n ≡ Some q → slice_get paths m ≡ Some (q ++ x ∷ []) → child node x ≡ Some m
  pub once : (n m : ℕ) (q : Full) → slice_get paths n ≡ Some q → slice_get paths m ≡ Some q → n ≡ m
  pub parents : (n : ℕ) (node : Node) (q : Full) → slice_get nodes n ≡ Some node → slice_get paths n ≡ Some q → 0 < n → Inside paths node.parent n q

-- The full names are all fronts of these ones.
pub record Covers (paths whole : List Full) : Type 0 where
  pub only : (n : ℕ) (q : Full) → slice_get paths n ≡ Some q → list_any (is_front q) whole ≡ true
  pub each : (q : Full) → list_any (is_front q) whole ≡ true → (n : ℕ) × (slice_get paths n ≡ Some q)

-- each number keeps its full name
abbrev pub Keeps : List Full → List Full → Type 0
Keeps olds news = (n : ℕ) (q : Full) → slice_get olds n ≡ Some q → slice_get news n ≡ Some q

-- the nodes stand for all fronts of these full names
pub record Names (nodes : List Node) (whole : List Full) : Type 0 where
  pub paths : List Full
  pub numbers : Numbers nodes paths
  pub covers : Covers paths whole

-- the nodes from before, and more
pub record Grown (old : List Full) (nodes : List Node) (whole : List Full) (n : ℕ) (q : Full) : Type 0 where
  pub names : Names nodes whole
  pub keeps : Keeps old names.paths
  pub at : slice_get names.paths n ≡ Some q

-- the same, where the new names are fronts of this one
pub record WithinAdded (old : List Full) (nodes : List Node) (whole : List Full) (n : ℕ) (q : Full) : Type 0 where
  pub more : List Full
  pub fronts : list_all (λ p. is_front p q) more ≡ true
  pub grown : Names nodes (whole ++ more)
  pub keeps : Keeps old grown.paths
  pub at : slice_get grown.paths n ≡ Some q

-- this is the number of this full name
abbrev pub IsNumber : List Full → Full → Option ℕ → Type 0
IsNumber paths q r = (n : ℕ) × (r ≡ Some n) × (slice_get paths n ≡ Some q)
