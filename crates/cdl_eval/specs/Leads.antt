-- A function that gives what links lead to, wherever the weight is below this one.
use Rattle.std.specs.Prelude.{◌≡◌, ℕ, ◌<◌, length, List, Result}
use denote.Ref.{Bor, MutBor}
use Rattle.cdl_values.specs.declared.value.Array.{Array}
use Rattle.cdl_array.specs.Outcomes.{Answers}
use Rattle.cdl_array.specs.declared.fault.EvalFault.{EvalFault}
use Rattle.cdl_classes.specs.declared.found.ClassId.{ClassId}
use Rattle.cdl_paths.specs.declared.path.Step.{Step}
use Rattle.cdl_worth.specs.Values.{value}
use Rattle.cdl_eval.specs.Kept.{Model, classes}
use Rattle.cdl_eval.specs.Places.{weight}

pub record Leads (most : ℕ) (pre : MutBor Model → ℕ → ClassId → Bor (List Step) → Bor (List ℕ) → Type 0)
    (post : MutBor Model → ℕ → ClassId → Bor (List Step) → Bor (List ℕ) → Result Array EvalFault → MutBor Model → Type 0) : Type 0 where
  pub callable : (old : MutBor Model) (k : ℕ) (start : ClassId) (steps : Bor (List Step)) (name : Bor (List ℕ)) → weight k (length steps.now) < most → pre old k start steps name
  pub same : (old new : MutBor Model) (k : ℕ) (start : ClassId) (steps : Bor (List Step)) (name : Bor (List ℕ)) (r : Result Array EvalFault) → post old k start steps name r new
      → new.now ≡ old.now
  pub gives : (old new : MutBor Model) (k : ℕ) (start : ClassId) (steps : Bor (List Step)) (name : Bor (List ℕ)) (r : Result Array EvalFault) → post old k start steps name r new
      → Answers (value (classes old.now) k start.index steps.now name.now) r
