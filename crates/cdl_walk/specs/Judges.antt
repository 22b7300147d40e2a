-- What the walk answers of rules: none is broken, or this one first.
use Rattle.std.specs.Prelude.{ℕ, List, Result, Ok, Err}
use Rattle.cdl_paths.specs.declared.path.Step.{Step}
use Rattle.cdl_stations.specs.Keys.{Key}
use Rattle.cdl_stations.specs.FirstBroken.{First, IsBroken, NoneBroken}
use Rattle.cdl_walk.specs.declared.walked.Walked.{Walked}
use Rattle.cdl_walk.specs.declared.walked.WalkFault.{WalkFault}
use Rattle.cdl_walk.specs.declared.walked.WalkFault.TheVariants as walk
use Rattle.cdl_walk.specs.Events.{Event, Fails, Bad}

-- no rule is broken at a station; or this rule is broken first, at this path
abbrev pub Judges : (Key → Event → Type 0) → Result Walked WalkFault → Type 0
Judges S (Ok w) = NoneBroken (IsBroken Bad S)
Judges S (Err (walk.Rule r p)) = First (IsBroken Bad S) (p.steps, r)
Judges S (Err walk.OutOfMemory) = Unit {0}

-- no station fails by itself
abbrev pub NoneFails : (Key → Event → Type 0) → Type 0
NoneFails S = (k : Key) (p : List Step) (r : ℕ) → S k (Fails p r) → ⊥
