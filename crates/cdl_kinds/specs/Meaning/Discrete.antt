-- What blocks mean that look at their input at some ticks only. Times are in milliseconds, a period is in millionths of a second.
use Rattle.std.specs.Prelude.{ℕ, ℤ, pos, ◌*ℤ◌, Bool, true, cond, List, [], ◌∷◌, Some, take}
use Rattle.std.specs.Int.{int_div_euclid}
use Rattle.std.specs.Int.RustNames.{int_lt}
use Rattle.cdl_decimal.specs.Counts.{real_mean}
use Rattle.cdl_values.specs.History.{History, Meaning, tick, word, one, rises}
use Rattle.cdl_values.specs.Extremes.{greatest}

-- the number of the sample interval in which a time lies, rounded down
abbrev pub interval : ℤ → ℤ → ℤ
interval period now = int_div_euclid (now *ℤ pos 1000) period

-- a sample tick: the first one, or one in a later interval than the tick before
abbrev pub samples : ℤ → History → ℤ → Bool
samples period [] now = true
samples period (t ∷ h) now = int_lt (interval period t.time) (interval period now)

-- u at the sample ticks, the latest first
abbrev pub sampled : ℤ → History → List ℤ
sampled period [] = []
sampled period (t ∷ h) = cond (samples period h t.time) (word t.ins 0 ∷ sampled period h) (sampled period h)

-- the first and the second of these, or this where there are fewer
abbrev pub first_or : ℤ → List ℤ → ℤ
first_or d [] = d
first_or d (a ∷ more) = a

abbrev pub second_or : ℤ → List ℤ → ℤ
second_or d [] = d
second_or d (a ∷ more) = first_or d more

-- u at the last sample tick, this one included
abbrev pub sampler : ℤ → Meaning
sampler period h now x = Some (first_or (pos 0) (sampled period (tick now x ∷ h)) ∷ [])

-- u at the sample tick before the last sample tick, or the start where there is only one
abbrev pub unit_delay : ℤ → ℤ → Meaning
unit_delay period start h now x = Some (second_or start (sampled period (tick now x ∷ h)) ∷ [])

-- u at the last tick at which trigger rose, or the start
abbrev pub caught : ℤ → History → ℤ
caught start [] = start
caught start (t ∷ h) = cond (rises h t.ins 1) (word t.ins 0) (caught start h)

abbrev pub triggered_sampler : ℤ → Meaning
triggered_sampler start h now x = Some (caught start (tick now x ∷ h) ∷ [])

-- the first tick, or one at which trigger rises
abbrev pub picks : History → List ℤ → Bool
picks [] x = true
picks (t ∷ h) x = rises (t ∷ h) x 1

-- u at these ticks, the latest first
abbrev pub picked : History → List ℤ
picked [] = []
picked (t ∷ h) = cond (picks h t.ins) (word t.ins 0 ∷ picked h) (picked h)

abbrev pub triggered_max : Meaning
triggered_max h now x = Some (greatest (picked (tick now x ∷ h)) ∷ [])

-- the mean of the last n of them, or of all where there are fewer
abbrev pub triggered_moving_mean : ℕ → Meaning
triggered_moving_mean n h now x = one (real_mean (take n (picked (tick now x ∷ h))))
