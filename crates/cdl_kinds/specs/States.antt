-- Which state words stand for a history of a block, and which are sound for a time.
use Rattle.std.specs.Prelude.{ℕ, zero, suc, ◌+◌, ◌≡◌, ◌⊎◌, ℤ, pos, negsuc, ◌*ℤ◌, ◌≤ℤ◌, Bool, true, false, List, [], ◌∷◌, Option, Some, None, drop, length, take, unsigned_abs}
use Rattle.cdl_kinds.specs.declared.kind.Kind.{Kind}
use Rattle.cdl_kinds.specs.declared.kind.Kind.TheVariants as kind
use Rattle.cdl_values.specs.declared.value.Array.{Array}
use Rattle.cdl_values.specs.declared.value.ValueType.TheVariants.{Boolean, Integer, Real}
use Rattle.cdl_values.specs.History.{AreValues, History, IsValue, before, bit, booleans, integers, last_time, reals, typed, word}
use Rattle.cdl_values.specs.Values.{boolean_at, integer_at, real_at}
use Rattle.cdl_kinds.specs.Meaning.Discrete.{caught, first_or, interval, picked, sampled, second_or}
use Rattle.cdl_kinds.specs.Meaning.Edges.{latched, toggled}
use Rattle.cdl_kinds.specs.Meaning.Integers.{counted}
use Rattle.cdl_kinds.specs.Meaning.Reals.{above, above_threshold, below, below_threshold, between, remembered}
use Rattle.cdl_values.specs.Extremes.{greatest}
use Rattle.cdl_kinds.specs.Meaning.Timers.{Held, accumulated, always_on, began, held}

-- the word of a time, -1 for none
abbrev pub time_word : Option ℤ → ℤ
time_word None = negsuc 0
time_word (Some t) = t

-- y of a hold, and when it changed last
abbrev pub hold_words : Option Held → List ℤ
hold_words None = pos 0 ∷ negsuc 0 ∷ []
hold_words (Some y) = bit y.on ∷ y.changed ∷ []

-- the sample interval of the latest tick, -1 before any
abbrev pub last_interval : ℤ → History → ℤ
last_interval period [] = negsuc 0
last_interval period (t ∷ h) = interval period t.time

abbrev pub has_begun : History → Bool
has_begun [] = false
has_begun (t ∷ h) = true

-- so many words: the first of these, and 0 for each that lacks
abbrev pub padded : ℕ → List ℤ → List ℤ
padded zero xs = []
padded (suc n) [] = pos 0 ∷ padded n []
padded (suc n) (x ∷ xs) = x ∷ padded n xs

-- the trigger before, how many samples there are, a spare word, and the last n samples, the latest first
abbrev pub mean_words : ℕ → History → List ℤ
mean_words n h = before (negsuc 0) 1 h ∷ pos (length (take n (picked h))) ∷ pos 0 ∷ padded n (picked h)

-- the state words that stand for a history of a block of the kind with these parameters
abbrev pub state_of : Kind → List Array → History → List ℤ
state_of kind.LogicalEdge v h = before (bit (boolean_at v 0)) 0 h ∷ []
state_of kind.LogicalFallingEdge v h = before (bit (boolean_at v 0)) 0 h ∷ []
state_of kind.LogicalChange v h = before (bit (boolean_at v 0)) 0 h ∷ []
state_of kind.LogicalLatch v h = bit (latched h) ∷ before (pos 0) 0 h ∷ []
state_of kind.LogicalToggle v h = bit (toggled h) ∷ before (pos 0) 0 h ∷ []
state_of kind.LogicalPre v h = before (bit (boolean_at v 0)) 0 h ∷ []
state_of kind.LogicalTimer v h = time_word (began h) ∷ pos 0 ∷ []
state_of kind.LogicalTimerAccumulating v h = accumulated h ∷ last_time h ∷ before (pos 0) 0 h ∷ before (pos 1) 1 h ∷ []
state_of kind.LogicalTrueDelay v h = time_word (began h) ∷ bit (always_on h) ∷ []
state_of kind.LogicalTrueFalseHold v h = hold_words (held (real_at v 0) (real_at v 1) h)
state_of kind.IntegersChange v h = before (integer_at v 0) 0 h ∷ []
state_of kind.IntegersOnCounter v h = counted (integer_at v 0) h ∷ before (pos 1) 0 h ∷ before (pos 1) 1 h ∷ []
state_of kind.RealsGreater v h = bit (remembered (above (real_at v 0)) (boolean_at v 1) h) ∷ []
state_of kind.RealsLess v h = bit (remembered (below (real_at v 0)) (boolean_at v 1) h) ∷ []
state_of kind.RealsGreaterThreshold v h = bit (remembered (above_threshold (real_at v 0) (real_at v 1)) (boolean_at v 2) h) ∷ []
state_of kind.RealsLessThreshold v h = bit (remembered (below_threshold (real_at v 0) (real_at v 1)) (boolean_at v 2) h) ∷ []
state_of kind.RealsHysteresis v h = bit (remembered (between (real_at v 0) (real_at v 1)) (boolean_at v 2) h) ∷ []
state_of kind.DiscreteSampler v h = last_interval (real_at v 0) h ∷ first_or (pos 0) (sampled (real_at v 0) h) ∷ []
state_of kind.DiscreteZeroOrderHold v h = last_interval (real_at v 0) h ∷ first_or (pos 0) (sampled (real_at v 0) h) ∷ []
state_of kind.DiscreteUnitDelay v h = last_interval (real_at v 0) h ∷ second_or (real_at v 1) (sampled (real_at v 0) h) ∷ first_or (real_at v 1) (sampled (real_at v 0) h) ∷ []
state_of kind.DiscreteTriggeredSampler v h = before (pos 1) 1 h ∷ caught (real_at v 0) h ∷ []
state_of kind.DiscreteTriggeredMax v h = bit (has_begun h) ∷ before (pos 1) 1 h ∷ greatest (picked h) ∷ []
state_of kind.DiscreteTriggeredMovingMean v h = mean_words (unsigned_abs (integer_at v 0)) h
state_of _ v h = []

abbrev pub Stands : Kind → List Array → List ℤ → History → Type 0
Stands k v state h = state ≡ state_of k v h

-- a time that is not after the last, or -1 for none
pub record IsTimeUpTo (last w : ℤ) : Type 0 where
  pub low : negsuc 0 ≤ℤ w
  pub high : w ≤ℤ last

-- a sample interval that begins no later than the last time, or -1 for none
abbrev pub IsIntervalUpTo : ℤ → ℤ → ℤ → Type 0
IsIntervalUpTo period last w = (w ≡ negsuc 0) ⊎ ((pos 0 ≤ℤ w) × ((w *ℤ period) ≤ℤ (last *ℤ pos 1000)))

-- when the run of true u began
pub record IsTimerState (state : List ℤ) (last : ℤ) : Type 0 where
  pub size : length state ≡ 2
  pub begin : IsTimeUpTo last (word state 0)
  pub spare : word state 1 ≡ pos 0

-- a time that was added up, the time of the last tick, and u and reset there; before any tick nothing is added up
pub record IsAccumulatingState (state : List ℤ) (last : ℤ) : Type 0 where
  pub size : length state ≡ 4
  pub time : IsTimeUpTo last (word state 1)
  pub input : IsValue Boolean (word state 2)
  pub reset : IsValue Boolean (word state 3)
  pub none : word state 1 ≡ negsuc 0 → (word state 0 ≡ pos 0) × (word state 2 ≡ pos 0)
  pub some : pos 0 ≤ℤ word state 1 → (pos 0 ≤ℤ word state 0) × (word state 0 ≤ℤ (word state 1 *ℤ pos 1000))

-- when the run of true u began, and whether u was true at every tick
pub record IsDelayState (state : List ℤ) (last : ℤ) : Type 0 where
  pub size : length state ≡ 2
  pub begin : IsTimeUpTo last (word state 0)
  pub always : IsValue Boolean (word state 1)

-- y, and when it changed last
pub record IsHoldState (state : List ℤ) (last : ℤ) : Type 0 where
  pub size : length state ≡ 2
  pub output : IsValue Boolean (word state 0)
  pub changed : IsTimeUpTo last (word state 1)

-- the sample interval of the last tick, and the last sample
pub record IsSamplerState (period : ℤ) (state : List ℤ) (last : ℤ) : Type 0 where
  pub size : length state ≡ 2
  pub interval : IsIntervalUpTo period last (word state 0)
  pub sample : IsValue Real (word state 1)

-- the sample interval of the last tick, and the last two samples
pub record IsUnitDelayState (period : ℤ) (state : List ℤ) (last : ℤ) : Type 0 where
  pub size : length state ≡ 3
  pub interval : IsIntervalUpTo period last (word state 0)
  pub older : IsValue Real (word state 1)
  pub newer : IsValue Real (word state 2)

-- the trigger at the last tick and how many samples there are, one at least, or -1 and none before any tick; and the samples
pub record IsMeanState (n : ℕ) (state : List ℤ) : Type 0 where
  pub size : length state ≡ n + 3
  pub count : ((word state 0 ≡ negsuc 0) × (word state 1 ≡ pos 0)) ⊎ (IsValue Boolean (word state 0) × (pos 1 ≤ℤ word state 1) × (word state 1 ≤ℤ pos n))
  pub spare : word state 2 ≡ pos 0
  pub samples : AreValues (reals n) (drop 3 state)

-- the state words may stand for some ticks, the last of them at this time or before, or for none
abbrev pub IsSound : Kind → List Array → List ℤ → ℤ → Type 0
IsSound kind.LogicalEdge v state last = AreValues (booleans 1) state
IsSound kind.LogicalFallingEdge v state last = AreValues (booleans 1) state
IsSound kind.LogicalChange v state last = AreValues (booleans 1) state
IsSound kind.LogicalLatch v state last = AreValues (booleans 2) state
IsSound kind.LogicalToggle v state last = AreValues (booleans 2) state
IsSound kind.LogicalPre v state last = AreValues (booleans 1) state
IsSound kind.LogicalTimer v state last = IsTimerState state last
IsSound kind.LogicalTimerAccumulating v state last = IsAccumulatingState state last
IsSound kind.LogicalTrueDelay v state last = IsDelayState state last
IsSound kind.LogicalTrueFalseHold v state last = IsHoldState state last
IsSound kind.IntegersChange v state last = AreValues (integers 1) state
IsSound kind.IntegersOnCounter v state last = AreValues (typed (Integer ∷ Boolean ∷ Boolean ∷ [])) state
IsSound kind.RealsGreater v state last = AreValues (booleans 1) state
IsSound kind.RealsLess v state last = AreValues (booleans 1) state
IsSound kind.RealsGreaterThreshold v state last = AreValues (booleans 1) state
IsSound kind.RealsLessThreshold v state last = AreValues (booleans 1) state
IsSound kind.RealsHysteresis v state last = AreValues (booleans 1) state
IsSound kind.DiscreteSampler v state last = IsSamplerState (real_at v 0) state last
IsSound kind.DiscreteZeroOrderHold v state last = IsSamplerState (real_at v 0) state last
IsSound kind.DiscreteUnitDelay v state last = IsUnitDelayState (real_at v 0) state last
IsSound kind.DiscreteTriggeredSampler v state last = AreValues (typed (Boolean ∷ Real ∷ [])) state
IsSound kind.DiscreteTriggeredMax v state last = AreValues (typed (Boolean ∷ Boolean ∷ Real ∷ [])) state
IsSound kind.DiscreteTriggeredMovingMean v state last = IsMeanState (unsigned_abs (integer_at v 0)) state
IsSound _ v state last = state ≡ []
