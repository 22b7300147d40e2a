-- The numbers of the instances of which the walk is inside.
use Rattle.std.specs.Prelude.{ℕ, ◌<◌, ◌≤◌, ◌≡◌, List, length, take, slice_get}
use Rattle.cdl_source.specs.declared.limits.TheConstants.{MOST_INSTANCES}
use Rattle.cdl_paths.specs.declared.path.Step.{Step}
use Rattle.cdl_walk.specs.declared.walked.Instance.{Instance}
use Rattle.cdl_walk.specs.Events.{number_at}

-- these are the numbers of the root, of the instance behind the first step of a path, and so on, of so many
pub record AreNumbers (numbers : List ℕ) (depth : ℕ) (path : List Step) (instances : List Instance) : Type 0 where
  pub count : length numbers ≡ depth
  pub each : (d : ℕ) → d < depth → number_at instances (take d path) ≡ slice_get numbers d

-- whatever came has this many steps or more, and is not too much
pub record IsDeeper (depth : ℕ) (olds news : List Instance) : Type 0 where
  pub same : (p : List Step) → length p < depth → number_at news p ≡ number_at olds p
  pub few : length olds ≤ MOST_INSTANCES → length news ≤ MOST_INSTANCES
