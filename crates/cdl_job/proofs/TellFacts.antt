-- What is told of an outcome.
use Rattle.std.proofs.Common.{◌≡◌, ◌∙◌, ℕ, List, Option, Result, Ok, Err, IfOk, MatchResult, ap, sym, subst, inl, inr}
use Rattle.cdl_job.specs.Job.{Task}
use Rattle.cdl_job.specs.Outcome.{err_text, no_memory_text}
use Rattle.cdl_job.specs.Told.{Reports, TakesMemory, Tells}
use Rattle.cdl_job.specs.declared.outcome.Outcome.{Outcome}
use Rattle.cdl_job.specs.declared.outcome.Outcome.TheVariants.{OutOfMemory}

-- the fixed text of an outcome was told
pub told_as : (task : Task) (line column : ℕ) (outcome due result : Outcome) (text : List ℕ) (old new : Option (List ℕ)) (rose : Type 0) → outcome ≡ due → text ≡ err_text task line column due
    → Tells outcome text result old new rose → Reports task line column outcome result old new rose
told_as task line column outcome due result text old new rose is same told =
    inl (subst (λ x. Tells outcome x result old new rose) (same ∙ ap (err_text task line column) (sym is)) told)

-- the text that was made for an outcome was told, or want of memory in its place
pub told_made : {E : Type 0} (task : Task) (line column : ℕ) (outcome result : Outcome) (made : Result (List ℕ) E) (old new : Option (List ℕ)) (rose : Type 0) → TakesMemory outcome
    → IfOk made (λ text. text ≡ err_text task line column outcome)
    → MatchResult made (λ text. Tells outcome text result old new rose) (λ _. Tells OutOfMemory no_memory_text result old new rose) → Reports task line column outcome result old new rose
told_made task line column outcome result (Ok text) old new rose takes is told = inl (subst (λ x. Tells outcome x result old new rose) is told)
told_made task line column outcome result (Err e) old new rose takes is told = inr (takes, told)
