-- Ticks looked at one by one, without a running state.
use Rattle.std.specs.Prelude.{ℕ, ◌%◌, ◌==◌, ℤ, Bool, ◌||◌, cond, List, [], ◌∷◌, Option, Some, None}
use Rattle.cdl_values.specs.History.{History, Tick, is_on, rises, starts, word}
use Rattle.cdl_kinds.specs.Meaning.Timers.{since}

-- a tick, and the ticks before it
pub record Moment : Type 0 where
  pub now : Tick
  pub past : History

abbrev pub moment : Tick → History → Moment
moment t h = record { now = t; past = h }

-- each tick of a history with those before it, the latest first
abbrev pub moments : History → List Moment
moments [] = []
moments (t ∷ h) = moment t h ∷ moments h

-- the input of that number starts, rises, is true
abbrev pub starts_at : ℕ → Moment → Bool
starts_at i m = starts m.past m.now.ins i

abbrev pub rises_at : ℕ → Moment → Bool
rises_at i m = rises m.past m.now.ins i

abbrev pub is_on_at : ℕ → Moment → Bool
is_on_at i m = is_on (word m.now.ins i)

abbrev pub is_odd : ℕ → Bool
is_odd n = n % 2 == 1

-- the time since the tick before, where u was true then
abbrev pub time_on : Moment → ℤ
time_on m = since m.past m.now.time

-- the moments behind the last that passes the test, or all where none does
abbrev pub since_last : (Moment → Bool) → List Moment → List Moment
since_last test [] = []
since_last test (m ∷ ms) = cond (test m) [] (m ∷ since_last test ms)

-- the latest tick that passes the test
abbrev pub latest : (Tick → Bool) → History → Option Tick
latest test [] = None
latest test (t ∷ h) = cond (test t) (Some t) (latest test h)

-- true where that tick sets y, and this where there is none
abbrev pub decision : (List ℤ → Bool) → Bool → Option Tick → Bool
decision sets start None = start
decision sets start (Some t) = sets t.ins

-- the latest tick that sets or resets y decides it, and before any it is as it starts
abbrev pub last_decision : (List ℤ → Bool) → (List ℤ → Bool) → Bool → History → Bool
last_decision sets resets start h = decision sets start (latest (λ t. sets t.ins || resets t.ins) h)
