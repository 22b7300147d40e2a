-- Look-up by scopes: the first scope outwards that has the first identifier is taken, and the rest is found inside.
use Rattle.std.specs.Prelude.{◌≡◌, ◌<◌, ◌≤◌, ℕ, List, [], ◌∷◌, take, length, Some, None}
use Rattle.cdl_scopes.specs.declared.lookup.Sought.{Sought}
use Rattle.cdl_scopes.specs.Classes.{Full, Declared}
use Rattle.cdl_scopes.specs.Lookup.{Entity, has, enters}

-- of the packages around a class the one of the first j identifiers has this name, and none further in has it
pub record IsFoundAt (ds : List Declared) (sought : Sought) (outer : Full) (x : List ℕ) (j : ℕ) (e : Entity) : Type 0 where
  pub around : j ≤ length outer
  pub has_it : has ds sought (take j outer) x ≡ Some e
  pub not_further_in : (k : ℕ) → j < k → k ≤ length outer → has ds sought (take k outer) x ≡ None

-- each further identifier is found inside what was found
abbrev pub LeadsTo : List Declared → Sought → Entity → Full → Entity → Type 0
LeadsTo ds sought f [] e = f ≡ e
LeadsTo ds sought f (x ∷ rest) e = (g : Entity) × (enters ds sought f x ≡ Some g) × LeadsTo ds sought g rest e

-- what a name means to a class that stands in this package
abbrev pub Means : List Declared → Sought → Full → Full → Entity → Type 0
Means ds sought outer [] e = ⊥
Means ds sought outer (x ∷ rest) e = (j : ℕ) × (f : Entity) × IsFoundAt ds sought outer x j f × LeadsTo ds sought f rest e
