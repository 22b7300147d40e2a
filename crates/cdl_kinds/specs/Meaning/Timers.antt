-- What timers, delays, holds and pulses mean. Times are in milliseconds; a Real of seconds is a count of millionths.
use Rattle.std.specs.Prelude.{ℤ, pos, ◌+ℤ◌, ◌-ℤ◌, ◌*ℤ◌, Bool, true, false, cond, not, ◌&&◌, ◌||◌, List, [], ◌∷◌, Option, Some, None}
use Rattle.std.specs.Int.{int_rem_euclid}
use Rattle.std.specs.Int.RustNames.{int_le, int_lt}
use Rattle.cdl_values.specs.History.{History, Meaning, tick, word, bit, is_on, flag, rises}

-- from one time to a later one, in millionths of a second
abbrev pub elapsed : ℤ → ℤ → ℤ
elapsed begin now = (now -ℤ begin) *ℤ pos 1000

abbrev pub or_now : Option ℤ → ℤ → ℤ
or_now None now = now
or_now (Some begin) now = begin

-- when the run of true u began that ends at the latest tick, if u is true there
abbrev pub began : History → Option ℤ
began [] = None
began (t ∷ h) = cond (is_on (word t.ins 0)) (Some (or_now (began h) t.time)) None

-- how long that run lasts, 0 where there is none
abbrev pub run_length : Option ℤ → ℤ → ℤ
run_length None now = pos 0
run_length (Some begin) now = elapsed begin now

-- y, and passed: u is true and y is at least t
abbrev pub timed : ℤ → Bool → ℤ → List ℤ
timed t u y = y ∷ bit (u && int_le t y) ∷ []

abbrev pub timer : ℤ → Meaning
timer t h now x = Some (timed t (is_on (word x 0)) (run_length (began (tick now x ∷ h)) now))

-- the time since the latest tick, where u was true then
abbrev pub since : History → ℤ → ℤ
since [] now = pos 0
since (t ∷ h) now = cond (is_on (word t.ins 0)) (elapsed t.time now) (pos 0)

-- the time that u was true, up to the latest tick, since reset rose or since the first tick
abbrev pub accumulated : History → ℤ
accumulated [] = pos 0
accumulated (t ∷ h) = cond (rises h t.ins 1) (pos 0) (accumulated h +ℤ since h t.time)

abbrev pub timer_accumulating : ℤ → Meaning
timer_accumulating t h now x = Some (timed t true (accumulated (tick now x ∷ h)))

-- u was true at every tick
abbrev pub always_on : History → Bool
always_on [] = true
always_on (t ∷ h) = is_on (word t.ins 0) && always_on h

-- a run that began at least the delay ago
abbrev pub has_lasted : ℤ → ℤ → Option ℤ → Bool
has_lasted delay now None = false
has_lasted delay now (Some begin) = int_le delay (elapsed begin now)

-- the run of true u that ends at the latest tick, which is now, began at least the delay ago, or at the first tick and there is no delay on init
abbrev pub delayed : ℤ → Bool → ℤ → History → Bool
delayed delay on_init now h = has_lasted delay now (began h) || (always_on h && not on_init)

-- h and this tick
abbrev pub true_delay : ℤ → Bool → Meaning
true_delay delay on_init h now x = flag (is_on (word x 0) && delayed delay on_init now (tick now x ∷ h))

-- y of a hold at the latest tick, and when it changed last; the first tick counts as a change
pub record Held : Type 0 where
  pub on : Bool
  pub changed : ℤ

-- y becomes u at a time where it has been held for its duration, else it stays
abbrev pub held_next : ℤ → ℤ → Held → ℤ → Bool → Held
held_next true_hold false_hold y now u =
    cond (int_le (cond y.on true_hold false_hold) (elapsed y.changed now))
    (cond u (cond y.on y (record { on = true; changed = now })) (cond y.on (record { on = false; changed = now }) y))
    y

abbrev pub held_from : ℤ → ℤ → Option Held → ℤ → Bool → Held
held_from true_hold false_hold None now u = record { on = u; changed = now }
held_from true_hold false_hold (Some y) now u = held_next true_hold false_hold y now u

abbrev pub held : ℤ → ℤ → History → Option Held
held true_hold false_hold [] = None
held true_hold false_hold (t ∷ h) = Some (held_from true_hold false_hold (held true_hold false_hold h) t.time (is_on (word t.ins 0)))

abbrev pub true_false_hold : ℤ → ℤ → Meaning
true_false_hold true_hold false_hold h now x = flag (held_from true_hold false_hold (held true_hold false_hold h) now (is_on (word x 0))).on

-- true in the first part of each period, counted from the shift; the width is that part, in millionths of the period
abbrev pub pulse : ℤ → ℤ → ℤ → Meaning
pulse width period shift h now x =
    flag (int_lt (int_rem_euclid (now *ℤ pos 1000 -ℤ shift) period *ℤ pos 1000000) (width *ℤ period))
