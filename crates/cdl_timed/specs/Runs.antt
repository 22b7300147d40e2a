-- Runs of true inputs in state words.
use Rattle.std.specs.Prelude.{ℤ, pos, negsuc, ◌≤ℤ◌, Bool, cond, Option, Some, None}
use Rattle.cdl_kinds.specs.Meaning.Timers.{or_now}

-- the time of a word, none where it is negative
abbrev pub time_of : ℤ → Option ℤ
time_of (pos n) = Some (pos n)
time_of (negsuc n) = None

-- no run, or one that began from 0 to this time
abbrev pub IsRun : ℤ → Option ℤ → Type 0
IsRun now None = Unit {0}
IsRun now (Some begin) = (pos 0 ≤ℤ begin) × (begin ≤ℤ now)

-- when the run began that this tick ends
abbrev pub run_next : Option ℤ → ℤ → Bool → Option ℤ
run_next since now on = cond on (Some (or_now since now)) None
