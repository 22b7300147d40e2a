-- What a job answers to the contents of the names, and what it leaves on standard output.
use Rattle.std.specs.Prelude.{◌≡◌, ◌⊎◌, ℕ, List, [], Option, Some, None, IfSome, MatchOption, slice_get, take, ⊤}
use Rattle.std.specs.Option.{ForSome}
use Rattle.cdl_source.specs.Outside.{told, written_after, DueBeginsWith}
use Rattle.cdl_source.specs.Whole.{WritesSome}
use Rattle.cdl_source.specs.declared.place.Place.{Place}
use Rattle.cdl_source.specs.declared.rules.TheConstants.{NOT_BUILT}
use Rattle.cdl_source.specs.Place.{line_of, column_of}
use Rattle.cdl_job.specs.Job.{Task, CheckOf, RunOf, CxfOf}
use Rattle.cdl_job.specs.Outcome.{files_of, models_of}
use Rattle.cdl_command.specs.Texts.{Contents}
use Rattle.cdl_command.specs.Breaks.{root_path}
use Rattle.cdl_command.specs.Sequences.{Sequence}
use Rattle.cdl_command.specs.Verdict.{ForCheck, ForDocument, ForRun, Work, Verdict}
use Rattle.cdl_job.specs.declared.outcome.Outcome.{Outcome}
use Rattle.cdl_job.specs.declared.outcome.Outcome.TheVariants.{Done, Refused, Usage, RangeFault, ReadFault, WriteFault, OutOfMemory}
use Rattle.cdl_job.specs.declared.outcome.Spot.{Spot}
use Rattle.cdl_job.specs.declared.outcome.Spot.TheVariants.{Source, Statement}

abbrev pub sequence : List ℕ → List (List ℕ) → Sequence
sequence class models = record { class = class; models = models }

-- the work of a verb that is built: `check`, `cxf` and `run`
abbrev pub built : Task → Option Work
built (CheckOf class models) = Some (record { sequence = sequence class models; ask = ForCheck })
built (RunOf class table models) = Some (record { sequence = sequence class models; ask = ForRun table })
built (CxfOf class models) = Some (record { sequence = sequence class models; ask = ForDocument })
built _ = None

-- what a job of another verb is answered
abbrev pub job_refused : Outcome
job_refused = Refused NOT_BUILT root_path

-- the answer to a job: the outcome, and the text on standard output
abbrev pub Answers : Task → Contents → Outcome → List ℕ → Type 0
Answers task contents outcome text =
    MatchOption (built task) ((outcome ≡ job_refused) × (text ≡ [])) (λ work. Verdict contents work outcome text)

-- The outcome is the answer to the words, and standard output grew by its text. Words that are no job have no answer but that.
abbrev pub Result : Option Task → Contents → Outcome → Option (List ℕ) → Option (List ℕ) → Type 0
Result task contents outcome old new =
    MatchOption task ((outcome ≡ Usage) × (new ≡ old)) (λ t. (text : List ℕ) × Answers t contents outcome text × (new ≡ written_after old text))

-- Where there is a list of due names and the words are a job, it begins with the files that the job reads.
abbrev pub DueOf : Option (List (List ℕ)) → Option Task → Type 0
DueOf due task = MatchOption due ⊤ (λ _. ForSome task (λ t. DueBeginsWith due (files_of t)))

-- standard output grew by the text of an answer with this outcome
abbrev pub GrewByAnswer : Task → Contents → Outcome → Option (List ℕ) → Option (List ℕ) → Type 0
GrewByAnswer task contents outcome old new = (text : List ℕ) × Answers task contents outcome text × (new ≡ written_after old text)

-- Standard output grew by a front of the text of an answer.
pub record GrewByFront (task : Task) (contents : Contents) (old new : Option (List ℕ)) : Type 0 where
  pub outcome : Outcome
  pub text : List ℕ
  pub answer : Answers task contents outcome text
  pub some : WritesSome old new text

-- standard output is as before, or grew by a front of what is due
abbrev pub GrewBySome : Task → Contents → Option (List ℕ) → Option (List ℕ) → Type 0
GrewBySome task contents old new = (new ≡ old) ⊎ GrewByFront task contents old new

-- What stands on standard output after the work of a job.
abbrev pub OutAfter : Task → Contents → Outcome → Option (List ℕ) → Option (List ℕ) → Type 0
OutAfter task contents Done old new = GrewByAnswer task contents Done old new
OutAfter task contents (RangeFault time path) old new = GrewByAnswer task contents (RangeFault time path) old new
OutAfter task contents (Refused rule spot) old new = Answers task contents (Refused rule spot) [] × (new ≡ old)
OutAfter task contents Usage old new = ⊥
OutAfter task contents ReadFault old new = new ≡ old
OutAfter task contents WriteFault old new = GrewBySome task contents old new
OutAfter task contents OutOfMemory old new = GrewBySome task contents old new

-- The byte of that number stands in this line and column of the text, both counted from 1.
abbrev pub StandsIn : List ℕ → ℕ → ℕ → ℕ → Type 0
StandsIn text byte line column = (line ≡ line_of (take byte text)) × (column ≡ column_of (take byte text))

-- the same of a place in one of the models, where its contents are told
abbrev pub IsAtPlace : List (List ℕ) → Contents → Place → ℕ → ℕ → Type 0
IsAtPlace models contents place line column =
    IfSome (slice_get models place.file) (λ name. IfSome (told contents name) (λ text. StandsIn text place.byte line column))

-- the same of a spot; one of no text has no line and no column
abbrev pub IsAtSpot : List (List ℕ) → Contents → Spot → ℕ → ℕ → Type 0
IsAtSpot models contents (Source place) line column = IsAtPlace models contents place line column
IsAtSpot models contents (Statement path place) line column = IsAtPlace models contents place line column
IsAtSpot models contents _ line column = Unit {0}

abbrev pub IsAt : Task → Contents → Outcome → ℕ → ℕ → Type 0
IsAt task contents (Refused rule spot) line column = IsAtSpot (models_of task) contents spot line column
IsAt task contents _ line column = Unit {0}
