-- Instances and elements by their numbers, which are their places in the lists.
use Rattle.std.specs.Prelude.{ℕ, ◌≡◌, List, map, Option, Some, slice_get, option_map, option_and_then}
use Rattle.cdl_network.specs.Network.{Wire}
use Rattle.cdl_connect.specs.declared.net.RawWire.{RawWire}
use Rattle.cdl_paths.specs.declared.path.Step.{Step}
use Rattle.cdl_walk.specs.declared.walked.Element.{Element}
use Rattle.cdl_walk.specs.declared.walked.Instance.{Instance}
use Rattle.cdl_walk.specs.Instances.{path_at}
use Rattle.cdl_model.specs.Names.{ElementName}

abbrev pub NamedWire : Type 0
NamedWire = Wire (List Step) ElementName

-- the paths of the instances and the names of the elements
pub record Directory : Type 0 where
  pub paths : List (List Step)
  pub names : List ElementName

abbrev pub path_in : Instance → List Step
path_in x = x.path.steps

abbrev pub name_in : List Instance → Element → ElementName
name_in xs e = record { path = path_at xs e.instance; name = e.point.name; indices = e.point.indices }

abbrev pub directory : List Instance → List Element → Directory
directory xs es = record { paths = map path_in xs; names = map (name_in xs) es }

abbrev pub wire : List Step → ElementName → ElementName → NamedWire
wire p l r = record { scope = p; left = l; right = r }

-- the wire that a wire between numbers stands for; none where a number is none of theirs
abbrev pub wire_at : Directory → RawWire → Option NamedWire
wire_at d x = option_and_then (λ p. option_and_then (λ l. option_map (wire p l) (slice_get d.names x.right)) (slice_get d.names x.left)) (slice_get d.paths x.scope)

-- numbers for these names, in order
abbrev pub AreNumbers : List ElementName → List ℕ → List ElementName → Type 0
AreNumbers names numbers xs = map (slice_get names) numbers ≡ map Some xs
