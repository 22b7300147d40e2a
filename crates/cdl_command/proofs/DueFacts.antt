-- The names that are due.
use Rattle.std.proofs.Common.{◌≡◌, ℕ, List, [], ◌∷◌, Option, Some, None}
use Rattle.cdl_source.specs.Outside.{DueBeginsWith}
use Rattle.cdl_job.specs.Job.{Task}
use Rattle.cdl_job.specs.Outcome.{files_of}
use Rattle.cdl_command.specs.Answer.{DueOf}

-- Where there is no list, any names may be begun.
no_list : (names : List (List ℕ)) → DueBeginsWith None names
no_list [] = tt
no_list (name ∷ names) = (λ x is. absurd (cc is), no_list names)

-- The files of the job are due.
pub due_files : (due : Option (List (List ℕ))) (task : Option Task) (t : Task) → DueOf due task → task ≡ Some t → DueBeginsWith due (files_of t)
due_files None task t of is = no_list (files_of t)
due_files (Some names) task t of is = of t is
