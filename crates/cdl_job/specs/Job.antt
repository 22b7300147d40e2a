-- Which words are a job, with nothing before or after them.
use Rattle.std.specs.Prelude.{ℕ, ◌+◌, ◌-◌, ◌*◌, ◌==◌, ◌&&◌, nat_le, not, Bool, List, [], ◌∷◌, length, map, string_bytes, Option, Some, None, if◌then◌else◌, codes}
use Rattle.std.specs.List.{list_all, slice_split}
use Rattle.std.specs.Option.{option_map}
use Rattle.std.specs.Str.{bytes_eq}
use Rattle.cdl_source.specs.Identifiers.{is_digit, is_identifier}
use Rattle.cdl_source.specs.declared.limits.TheConstants.{MOST_MODELS}
use Rattle.cdl_job.specs.declared.job.Job.{Job}
use Rattle.cdl_job.specs.declared.job.Job.TheVariants.{Check, Run, Cxf, CheckCxf, RunCxf, Sample}

-- what the words ask for, with the bytes of each word
pub data Task : Type 0 where
  CheckOf : List ℕ → List (List ℕ) → Task
  RunOf : List ℕ → List ℕ → List (List ℕ) → Task
  CxfOf : List ℕ → List (List ℕ) → Task
  CheckCxfOf : List ℕ → Task
  RunCxfOf : List ℕ → List ℕ → Task
  SampleOf : ℕ → Task

-- identifiers with points between them
abbrev pub is_class_name : List ℕ → Bool
is_class_name word = list_all is_identifier (slice_split (λ c. c == 46) word)

abbrev pub is_file_name : List ℕ → Bool
is_file_name word = not (length word == 0)

-- at least one name of a model, and no more than a job may have
abbrev pub are_models : List (List ℕ) → Bool
are_models words = nat_le 1 (length words) && nat_le (length words) MOST_MODELS && list_all is_file_name words

abbrev pub largest_sample : ℕ
largest_sample = 2000

-- the number of n's digits and then these, from 1 to the largest
abbrev pub sample_size_after : ℕ → List ℕ → Option ℕ
sample_size_after n [] = if nat_le 1 n && nat_le n largest_sample then Some n else None
sample_size_after n (d ∷ ds) = if is_digit d && nat_le n largest_sample then sample_size_after (10 * n + (d - 48)) ds else None

-- a whole number from 1 to the largest, in digits without a leading zero
abbrev pub sample_size : List ℕ → Option ℕ
sample_size [] = None
sample_size (d ∷ ds) = if d == 48 then None else sample_size_after 0 (d ∷ ds)

-- what the words behind each verb ask for
abbrev pub check_of : List (List ℕ) → Option Task
check_of (class ∷ models) = if is_class_name class && are_models models then Some (CheckOf class models) else None
check_of [] = None

abbrev pub run_of : List (List ℕ) → Option Task
run_of (class ∷ table ∷ models) = if is_class_name class && is_file_name table && are_models models then Some (RunOf class table models) else None
run_of _ = None

abbrev pub cxf_of : List (List ℕ) → Option Task
cxf_of (class ∷ models) = if is_class_name class && are_models models then Some (CxfOf class models) else None
cxf_of [] = None

abbrev pub check_cxf_of : List (List ℕ) → Option Task
check_cxf_of (doc ∷ []) = if is_file_name doc then Some (CheckCxfOf doc) else None
check_cxf_of _ = None

abbrev pub run_cxf_of : List (List ℕ) → Option Task
run_cxf_of (table ∷ doc ∷ []) = if is_file_name table && is_file_name doc then Some (RunCxfOf table doc) else None
run_cxf_of _ = None

abbrev pub sample_of : List (List ℕ) → Option Task
sample_of (n ∷ []) = option_map SampleOf (sample_size n)
sample_of _ = None

-- what the words ask for, if they are a job
abbrev pub task_of : List (List ℕ) → Option Task
task_of [] = None
task_of (verb ∷ words) =
    if bytes_eq verb (codes "check") then check_of words
    else if bytes_eq verb (codes "run") then run_of words
    else if bytes_eq verb (codes "cxf") then cxf_of words
    else if bytes_eq verb (codes "checkcxf") then check_cxf_of words
    else if bytes_eq verb (codes "runcxf") then run_cxf_of words
    else if bytes_eq verb (codes "sample") then sample_of words
    else None

-- the task of a job
abbrev pub task_of_job : Job → Task
task_of_job (Check class models) = CheckOf class.now (map string_bytes models.now)
task_of_job (Run class table models) = RunOf class.now table.now (map string_bytes models.now)
task_of_job (Cxf class models) = CxfOf class.now (map string_bytes models.now)
task_of_job (CheckCxf doc) = CheckCxfOf doc.now
task_of_job (RunCxf table doc) = RunCxfOf table.now doc.now
task_of_job (Sample n) = SampleOf n
