-- Short histories, computed: what blocks give at each tick, from the first on.
use Rattle.std.specs.Prelude.{ℕ, ◌+◌, ◌*◌, ℤ, pos, negsuc, ◌≡◌, true, false, List, [], ◌∷◌, Option, Some, None}
use Rattle.cdl_source.specs.declared.limits.TheConstants.{LARGEST_INTEGER}
use Rattle.cdl_values.specs.History.{History, Meaning, Tick, tick}
use Rattle.cdl_kinds.specs.Meaning.Conversions.{to_nearest_integer}
use Rattle.cdl_kinds.specs.Meaning.Discrete.{sampler, triggered_max, triggered_moving_mean, triggered_sampler, unit_delay}
use Rattle.cdl_kinds.specs.Meaning.Edges.{edge, is_change, is_edge, is_falling, latch, pre, toggle}
use Rattle.cdl_kinds.specs.Meaning.Integers.{integer_change, on_counter}
use Rattle.cdl_kinds.specs.Meaning.Reals.{above, above_threshold, below, below_threshold, between, remembering}
use Rattle.cdl_kinds.specs.Meaning.Timers.{pulse, timer, timer_accumulating, true_delay, true_false_hold}

-- what a block gives at these ticks, the first of them first, after a history
abbrev pub answers : Meaning → History → List Tick → List (Option (List ℤ))
answers m h [] = []
answers m h (t ∷ ts) = m h t.time t.ins ∷ answers m (t ∷ h) ts

abbrev pub off : Option (List ℤ)
off = Some (pos 0 ∷ [])

abbrev pub on : Option (List ℤ)
on = Some (pos 1 ∷ [])

abbrev pub just : ℕ → Option (List ℤ)
just n = Some (pos n ∷ [])

abbrev pub two : ℕ → ℕ → Option (List ℤ)
two a b = Some (pos a ∷ pos b ∷ [])

abbrev pub three : ℕ → ℕ → ℕ → Option (List ℤ)
three a b c = Some (pos a ∷ pos b ∷ pos c ∷ [])

-- a tick with one input, and with two
abbrev pub at : ℕ → ℕ → Tick
at t u = tick (pos t) (pos u ∷ [])

abbrev pub with : ℕ → ℕ → ℕ → Tick
with t u v = tick (pos t) (pos u ∷ pos v ∷ [])

-- a delay of 5 ms: true at the tick that comes exactly 5 ms after the run began
abbrev pub TrueDelayFires : Type 0
TrueDelayFires = (answers (true_delay (pos 5000) false) [] (at 0 0 ∷ at 1 1 ∷ at 5 1 ∷ at 6 1 ∷ at 7 0 ∷ at 8 1 ∷ at 13 1 ∷ []) ≡ off ∷ off ∷ off ∷ on ∷ off ∷ off ∷ on ∷ [])

-- a run that began at the first tick is not delayed, but for a delay on init
abbrev pub TrueDelayBegins : Type 0
TrueDelayBegins = (answers (true_delay (pos 5000) false) [] (at 0 1 ∷ at 5 1 ∷ []) ≡ on ∷ on ∷ [])

abbrev pub TrueDelayBeginsLate : Type 0
TrueDelayBeginsLate = (answers (true_delay (pos 5000) true) [] (at 0 1 ∷ at 5 1 ∷ []) ≡ off ∷ on ∷ [])

-- true is held for 2 s and false for 1 s, from the first tick on
abbrev pub HoldsBoth : Type 0
HoldsBoth = (answers (true_false_hold (pos 2000000) (pos 1000000)) [] (at 0 1 ∷ at 1000 0 ∷ at 2000 0 ∷ at 2500 1 ∷ at 3000 1 ∷ at 4000 1 ∷ at 5000 0 ∷ []) ≡ on ∷ on ∷ off ∷ off ∷ on ∷ on ∷ off ∷ [])

-- 2 s of true u have passed; a reset that rises begins anew, and one that stays does not
abbrev pub Accumulates : Type 0
Accumulates = (answers (timer_accumulating (pos 2000000)) [] (with 0 1 0 ∷ with 1000 1 0 ∷ with 2500 0 0 ∷ with 3000 1 0 ∷ with 4000 1 1 ∷ with 5000 1 1 ∷ []) ≡ two 0 0 ∷ two 1000000 0 ∷ two 2500000 1 ∷ two 2500000 1 ∷ two 0 0 ∷ two 1000000 0 ∷ [])

-- the time of the run of true u; 1 s of it has passed
abbrev pub TimesRuns : Type 0
TimesRuns = (answers (timer (pos 1000000)) [] (at 0 1 ∷ at 1000 1 ∷ at 1500 0 ∷ at 2000 1 ∷ at 2500 1 ∷ []) ≡ two 0 0 ∷ two 1000000 1 ∷ two 0 0 ∷ two 0 0 ∷ two 500000 0 ∷ [])

-- sampled every 2 s, and given one sample later
abbrev pub DelaysByOneSample : Type 0
DelaysByOneSample = (answers (unit_delay (pos 2000000) (pos 7)) [] (at 0 1 ∷ at 1000 2 ∷ at 2000 3 ∷ at 3000 4 ∷ at 4500 5 ∷ []) ≡ just 7 ∷ just 7 ∷ just 1 ∷ just 1 ∷ just 3 ∷ [])

-- sampled every 2 s; a tick late in its interval is a sample tick too
abbrev pub SamplesAtOnce : Type 0
SamplesAtOnce = (answers (sampler (pos 2000000)) [] (at 500 1 ∷ at 1000 2 ∷ at 2500 3 ∷ at 3000 4 ∷ at 4500 5 ∷ []) ≡ just 1 ∷ just 1 ∷ just 3 ∷ just 3 ∷ just 5 ∷ [])

-- the mean of the last two picks; u is picked at the first tick and where trigger rises
abbrev pub MeansOfTwo : Type 0
MeansOfTwo = (answers (triggered_moving_mean 2) [] (with 0 4 1 ∷ with 1 7 0 ∷ with 2 6 1 ∷ with 3 9 1 ∷ with 4 1 0 ∷ with 5 1 1 ∷ []) ≡ just 4 ∷ just 4 ∷ just 5 ∷ just 5 ∷ just 5 ∷ just 4 ∷ [])

-- a trigger that is true at the first tick does not rise, and yet the first tick is a pick
abbrev pub Catches : Type 0
Catches = (answers (triggered_sampler (pos 9)) [] (with 0 5 1 ∷ with 1 7 0 ∷ with 2 6 1 ∷ []) ≡ just 9 ∷ just 9 ∷ just 6 ∷ [])

abbrev pub GreatestPick : Type 0
GreatestPick = (answers triggered_max [] (with 0 5 1 ∷ with 1 7 0 ∷ with 2 6 1 ∷ []) ≡ just 5 ∷ just 5 ∷ just 6 ∷ [])

-- a period of 2 s, half of it true, shifted by 1.5 s: the part before the shift is that of a whole period earlier
abbrev pub Pulses : Type 0
Pulses = (answers (pulse (pos 500000) (pos 2000000) (pos 1500000)) [] (tick (pos 0) [] ∷ tick (pos 500) [] ∷ tick (pos 1500) [] ∷ []) ≡ on ∷ off ∷ on ∷ [])

-- the rising edges of trigger, not counted at the first tick nor where reset rises
abbrev pub Counts : Type 0
Counts = (answers (on_counter (pos 0)) [] (with 0 1 0 ∷ with 1 0 0 ∷ with 2 1 0 ∷ with 3 1 0 ∷ with 4 0 0 ∷ with 5 1 1 ∷ []) ≡ just 0 ∷ just 0 ∷ just 1 ∷ just 1 ∷ just 1 ∷ just 0 ∷ [])

-- no count above the greatest Integer
abbrev pub CountsNoFurther : Type 0
CountsNoFurther = (answers (on_counter (pos LARGEST_INTEGER)) [] (with 0 0 0 ∷ with 1 1 0 ∷ []) ≡ just LARGEST_INTEGER ∷ None ∷ [])

abbrev pub Latches : Type 0
Latches = (answers latch [] (with 0 1 0 ∷ with 1 0 1 ∷ with 2 1 1 ∷ []) ≡ on ∷ off ∷ off ∷ [])

abbrev pub Toggles : Type 0
Toggles = (answers toggle [] (with 0 1 0 ∷ with 1 1 0 ∷ with 2 0 0 ∷ with 3 1 0 ∷ with 4 0 1 ∷ []) ≡ on ∷ on ∷ on ∷ off ∷ off ∷ [])

-- a half goes away from zero, and past the range there is no value
abbrev pub RoundsHalvesAway : Type 0
RoundsHalvesAway = (answers to_nearest_integer [] (at 0 500000 ∷ tick (pos 1) (negsuc 499999 ∷ []) ∷ at 2 1499999 ∷ at 3 (LARGEST_INTEGER * 1000000 + 500000) ∷ []) ≡ just 1 ∷ Some (negsuc 0 ∷ []) ∷ just 1 ∷ None ∷ [])

-- an edge: true at the tick at which u becomes true, at the first one by the start
abbrev pub RisingEdges : Type 0
RisingEdges = (answers (edge is_edge false) [] (at 0 1 ∷ at 1 1 ∷ at 2 0 ∷ at 3 1 ∷ []) ≡ on ∷ off ∷ off ∷ on ∷ [])

abbrev pub NoRisingEdgeAtFirst : Type 0
NoRisingEdgeAtFirst = (answers (edge is_edge true) [] (at 0 1 ∷ at 1 0 ∷ at 2 1 ∷ []) ≡ off ∷ off ∷ on ∷ [])

abbrev pub FallingEdges : Type 0
FallingEdges = (answers (edge is_falling true) [] (at 0 0 ∷ at 1 0 ∷ at 2 1 ∷ at 3 0 ∷ []) ≡ on ∷ off ∷ off ∷ on ∷ [])

abbrev pub Changes : Type 0
Changes = (answers (edge is_change false) [] (at 0 1 ∷ at 1 1 ∷ at 2 0 ∷ at 3 0 ∷ []) ≡ on ∷ off ∷ on ∷ off ∷ [])

-- the u before, at the first tick the start
abbrev pub GivesTheOneBefore : Type 0
GivesTheOneBefore = (answers (pre true) [] (at 0 0 ∷ at 1 1 ∷ at 2 0 ∷ []) ≡ on ∷ off ∷ on ∷ [])

-- y, up and down of a change of Integers, from a start of 5
abbrev pub IntegersChange : Type 0
IntegersChange = (answers (integer_change (pos 5)) [] (at 0 5 ∷ at 1 7 ∷ at 2 2 ∷ at 3 2 ∷ []) ≡ three 0 0 0 ∷ three 1 1 0 ∷ three 1 0 1 ∷ three 0 0 0 ∷ [])

-- u1 > u2, and then as long as u1 > u2 - 2
abbrev pub GreaterHolds : Type 0
GreaterHolds = (answers (remembering (above (pos 2)) false) [] (with 0 5 5 ∷ with 1 6 5 ∷ with 2 4 5 ∷ with 3 3 5 ∷ with 4 4 5 ∷ []) ≡ off ∷ on ∷ on ∷ off ∷ off ∷ [])

-- as if y had been true before the first tick
abbrev pub GreaterBegins : Type 0
GreaterBegins = (answers (remembering (above (pos 2)) true) [] (with 0 4 5 ∷ with 1 3 5 ∷ []) ≡ on ∷ off ∷ [])

-- u1 < u2, and then as long as u1 < u2 + 2
abbrev pub LessHolds : Type 0
LessHolds = (answers (remembering (below (pos 2)) false) [] (with 0 5 5 ∷ with 1 4 5 ∷ with 2 6 5 ∷ with 3 7 5 ∷ with 4 6 5 ∷ []) ≡ off ∷ on ∷ on ∷ off ∷ off ∷ [])

abbrev pub GreaterThresholdHolds : Type 0
GreaterThresholdHolds = (answers (remembering (above_threshold (pos 5) (pos 2)) false) [] (at 0 5 ∷ at 1 6 ∷ at 2 4 ∷ at 3 3 ∷ at 4 4 ∷ []) ≡ off ∷ on ∷ on ∷ off ∷ off ∷ [])

abbrev pub LessThresholdHolds : Type 0
LessThresholdHolds = (answers (remembering (below_threshold (pos 5) (pos 2)) false) [] (at 0 5 ∷ at 1 4 ∷ at 2 6 ∷ at 3 7 ∷ at 4 6 ∷ []) ≡ off ∷ on ∷ on ∷ off ∷ off ∷ [])

-- true above 5, false below 2, at both edges as before
abbrev pub HysteresisHolds : Type 0
HysteresisHolds = (answers (remembering (between (pos 2) (pos 5)) false) [] (at 0 5 ∷ at 1 6 ∷ at 2 2 ∷ at 3 1 ∷ at 4 5 ∷ []) ≡ off ∷ on ∷ on ∷ off ∷ off ∷ [])

abbrev pub HysteresisBegins : Type 0
HysteresisBegins = (answers (remembering (between (pos 2) (pos 5)) true) [] (at 0 2 ∷ at 1 1 ∷ []) ≡ on ∷ off ∷ [])
