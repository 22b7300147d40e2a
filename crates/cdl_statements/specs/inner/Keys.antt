-- Keys under which instances and elements are found.
use Rattle.std.specs.Prelude.{ℕ, ◌<◌, ◌≡◌, List, [], ◌∷◌, ◌++◌, map, length, Option, Some, None, Vec, slice_get}
use Rattle.std.specs.List.{flat_map}
use Rattle.std.specs.declared.alloc.Global.{Global}
use Rattle.std.specs.BTreeMap.{BTreeMap}
use Rattle.cdl_paths.specs.declared.path.Step.{Step}
use Rattle.cdl_scopes.specs.Entries.{entry}
use Rattle.cdl_walk.specs.declared.walked.Element.{Element}
use Rattle.cdl_walk.specs.declared.walked.Instance.{Instance}
use Rattle.cdl_walk.specs.Instances.{path_at}
use Rattle.cdl_statements.specs.Directory.{path_in}

abbrev pub Numbers : Type 0
Numbers = BTreeMap (Vec ℕ Global) ℕ

-- a name and indices, each with their number before them
abbrev pub step_key : List ℕ → List ℕ → List ℕ
step_key name is = (length name ∷ name) ++ (length is ∷ is)

abbrev pub key_of_step : Step → List ℕ
key_of_step s = step_key s.name s.indices

abbrev pub path_key : List Step → List ℕ
path_key p = flat_map key_of_step p

abbrev pub instance_key : Instance → List ℕ
instance_key x = path_key (path_in x)

-- the number of an instance, or none
abbrev pub owner_key : Option ℕ → List ℕ
owner_key None = 0 ∷ []
owner_key (Some n) = 1 ∷ n ∷ []

-- an element, where the paths have these numbers
abbrev pub element_key : Numbers → List Step → List ℕ → List ℕ → List ℕ
element_key m p name is = owner_key (entry m (path_key p)) ++ step_key name is

abbrev pub key_of_element : Numbers → List Instance → Element → List ℕ
key_of_element m xs e = element_key m (path_at xs e.instance) e.point.name e.point.indices

abbrev pub HasNumber : Numbers → List ℕ → Type 0
HasNumber m y = (n : ℕ) × (entry m y ≡ Some n)

-- a map has places of keys, and each key before this place
pub record IsIndex (keys : List (List ℕ)) (count : ℕ) (m : Numbers) : Type 0 where
  pub only : (y : List ℕ) (n : ℕ) → entry m y ≡ Some n → slice_get keys n ≡ Some y
  pub each : (n : ℕ) (y : List ℕ) → n < count → slice_get keys n ≡ Some y → HasNumber m y

pub record AreIndices (xs : List Instance) (es : List Element) (paths numbers : Numbers) : Type 0 where
  pub by_path : IsIndex (map instance_key xs) (length xs) paths
  pub by_name : IsIndex (map (key_of_element paths xs) es) (length es) numbers
