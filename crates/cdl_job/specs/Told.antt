-- What standard error is told.
use Rattle.std.specs.Prelude.{◌≡◌, ◌⊎◌, ℕ, List, Option, ⊤}
use Rattle.cdl_source.specs.Outside.{written_after}
use Rattle.cdl_source.specs.Whole.{WritesSome}
use Rattle.cdl_job.specs.Job.{Task}
use Rattle.cdl_job.specs.Outcome.{err_text}
use Rattle.cdl_job.specs.declared.outcome.Outcome.{Outcome}
use Rattle.cdl_job.specs.declared.outcome.Outcome.TheVariants.{Refused, RangeFault, WriteFault, OutOfMemory}

-- The text was written and the outcome stays; or the sink failed behind a front of the text, and that is the outcome.
abbrev pub Tells : Outcome → List ℕ → Outcome → Option (List ℕ) → Option (List ℕ) → Type 0 → Type 0
Tells due text result old new rose =
    ((result ≡ due) × (new ≡ written_after old text)) ⊎ ((result ≡ WriteFault) × rose × WritesSome old new text)

-- The text of the outcome is put together, which takes memory. The others have one fixed text each.
abbrev pub TakesMemory : Outcome → Type 0
TakesMemory (Refused rule spot) = ⊤
TakesMemory (RangeFault time path) = ⊤
TakesMemory _ = ⊥

-- The same of an outcome's own text; or, of one whose text takes memory, want of memory is told in its place.
abbrev pub Reports : Task → ℕ → ℕ → Outcome → Outcome → Option (List ℕ) → Option (List ℕ) → Type 0 → Type 0
Reports task line column due result old new rose =
    Tells due (err_text task line column due) result old new rose
    ⊎ (TakesMemory due × Tells OutOfMemory (err_text task line column OutOfMemory) result old new rose)
