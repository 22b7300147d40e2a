-- What the top call and the work of a job leave.
use Rattle.std.specs.Prelude.{◌≡◌, ◌⊎◌, ℕ, ◌+◌, List, Option, MatchOption}
use Rattle.cdl_job.specs.Job.{Task}
use Rattle.cdl_job.specs.Outcome.{usage_text}
use Rattle.cdl_command.specs.Texts.{Contents}
use Rattle.cdl_command.specs.Verdict.{InOrder}
use Rattle.cdl_command.specs.Answer.{built, OutAfter, IsAt}
use Rattle.cdl_job.specs.Told.{Tells, Reports}
use Rattle.cdl_job.specs.declared.outcome.Outcome.{Outcome}
use Rattle.cdl_job.specs.declared.outcome.Outcome.TheVariants.{Usage, ReadFault, WriteFault}
use Rattle.cdl_command.specs.declared.stop.Ended.{Ended}

-- A job begins files in the order of work, and none where its verb isn't built.
abbrev pub BeginsInOrder : Task → Contents → ℕ → ℕ → Type 0
BeginsInOrder task contents before now =
    MatchOption (built task) (now ≡ before) (λ work. (count : ℕ) × (now ≡ before + count) × InOrder contents work count)

-- The work of a job: what stands on standard output, the place of a refusal, and each fault with its cause.
pub record Works (task : Task) (contents : Contents) (before now : ℕ) (read_rose write_rose : Type 0) (ended : Ended) (old new : Option (List ℕ)) : Type 0 where
  pub out : OutAfter task contents ended.outcome old new
  pub at : IsAt task contents ended.outcome ended.line ended.column
  pub read : ended.outcome ≡ ReadFault → read_rose
  pub write : ended.outcome ≡ WriteFault → write_rose
  pub begun : BeginsInOrder task contents before now

-- Words that are no job begin no file.
abbrev pub BegunFor : Option Task → Contents → ℕ → ℕ → Type 0
BegunFor task contents before now = MatchOption task (now ≡ before) (λ t. BeginsInOrder t contents before now)

-- What stands on standard output after the words were answered: what the outcome leaves, which is WriteFault only where
-- standard output failed. Or standard error failed: then the outcome is WriteFault whatever the work of the job ended with,
-- and standard output is as that left it.
abbrev pub OutAfterWords : Option Task → Contents → Outcome → Option (List ℕ) → Option (List ℕ) → Type 0 → Type 0 → Type 0
OutAfterWords task contents result old new out_rose err_rose =
    MatchOption task (new ≡ old)
    (λ t.
    (OutAfter t contents result old new × (result ≡ WriteFault → out_rose))
    ⊎ ((result ≡ WriteFault) × err_rose × ((due : Outcome) × OutAfter t contents due old new)))

-- The text of an outcome that the work of a job ended with was told, or of want of memory in its place.
pub record IsTold (task : Task) (contents : Contents) (result : Outcome) (out_old out_new old new : Option (List ℕ)) (rose : Type 0) : Type 0 where
  pub due : Outcome
  pub out : OutAfter task contents due out_old out_new
  pub line : ℕ
  pub column : ℕ
  pub at : IsAt task contents due line column
  pub told : Reports task line column due result old new rose

-- What stands on standard error: the text of the outcome; or, where it failed, a front of the text that was due.
abbrev pub ErrAfterWords : Option Task → Contents → Outcome → Option (List ℕ) → Option (List ℕ) → Option (List ℕ) → Option (List ℕ) → Type 0 → Type 0
ErrAfterWords task contents result out_old out_new old new rose =
    MatchOption task (Tells Usage usage_text result old new rose) (λ t. IsTold t contents result out_old out_new old new rose)
