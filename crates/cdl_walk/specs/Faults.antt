-- Rules that are broken at paths.
use Rattle.std.specs.Prelude.{ℕ, ◌≡◌, List, [], ◌∷◌, ◌++◌, Option, Some, None, Result, Ok, Err}
use Rattle.cdl_array.specs.Outcomes.{Outcome}
use Rattle.cdl_array.specs.declared.fault.EvalFault.{EvalFault}
use Rattle.cdl_array.specs.declared.fault.EvalFault.TheVariants as eval
use Rattle.cdl_paths.specs.declared.path.Step.{Step}
use Rattle.cdl_walk.specs.declared.walked.WalkFault.{WalkFault}
use Rattle.cdl_walk.specs.declared.walked.WalkFault.TheVariants as walk

-- the path of what has this name in the instance at a path
abbrev pub named : List Step → List ℕ → List Step
named p x = p ++ (record { name = x; indices = [] }) ∷ []

-- a path and the rule that is broken there
abbrev pub Fault : Type 0
Fault = List Step × ℕ

-- what a fault tells, unless memory ran out
abbrev pub seen : WalkFault → Option Fault
seen (walk.Rule r p) = Some (p.steps, r)
seen walk.OutOfMemory = None

-- this rule at this path, unless memory ran out
abbrev pub Breaks : WalkFault → List Step → ℕ → Type 0
Breaks (walk.Rule r p) q s = (p.steps ≡ q) × (r ≡ s)
Breaks walk.OutOfMemory q s = Unit {0}

abbrev pub BreaksAs : WalkFault → List Step → EvalFault → Type 0
BreaksAs f q (eval.Rule s) = Breaks f q s
BreaksAs f q eval.OutOfMemory = f ≡ walk.OutOfMemory

-- an outcome at a path
abbrev pub at : {A : Type 0} → List Step → Outcome A → Result A Fault
at p (Ok a) = Ok a
at p (Err r) = Err (p, r)

abbrev pub TellsFault : {A : Type 0} → Result A Fault → Option Fault → Type 0
TellsFault o None = Unit {0}
TellsFault o (Some f) = o ≡ Err f

-- the answer of a call is this, unless memory ran out
abbrev pub Tells : {A : Type 0} → Result A Fault → Result A WalkFault → Type 0
Tells o (Ok a) = o ≡ Ok a
Tells o (Err f) = TellsFault o (seen f)
