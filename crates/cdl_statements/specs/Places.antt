-- Where statements stand.
use Rattle.std.specs.Prelude.{ℕ, List, option_map, slice_get, unwrap_or}
use Rattle.cdl_source.specs.declared.place.Place.{Place}
use Rattle.cdl_scopes.specs.Classes.{Declared, declared}
use Rattle.cdl_classes.specs.declared.found.ClassId.{ClassId}
use Rattle.cdl_paths.specs.declared.path.Step.{Step}
use Rattle.cdl_params.specs.Kept.{Model}

-- an instance of a declared block: its path, its class, and the number of the file of that
pub record Scope : Type 0 where
  pub path : List Step
  pub class : ClassId
  pub file : ℕ

abbrev pub file_in : Declared → ℕ
file_in d = d.file

-- the number of the file of a declared class
abbrev pub file_of : List Declared → ℕ → ℕ
file_of ds c = unwrap_or (option_map file_in (slice_get ds c)) 0

abbrev pub scope_of : Model → List Step → ClassId → Scope
scope_of w p c = record { path = p; class = c; file = file_of (declared w.files) c.index }

-- a place in the text of a block, and the path of the instance whose statement stands there
pub record Spot : Type 0 where
  pub path : List Step
  pub place : Place

-- the byte of this number in the text of a scope's block
abbrev pub spot : Scope → ℕ → Spot
spot s b = record { path = s.path; place = record { file = s.file; byte = b } }

-- a spot, and the rule that is broken there
abbrev pub Fault : Type 0
Fault = Spot × ℕ
