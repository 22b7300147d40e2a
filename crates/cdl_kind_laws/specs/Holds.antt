-- A hold, said by what it gave before.
use Rattle.std.specs.Prelude.{ℤ, pos, Bool, false, cond, List, [], ◌∷◌, Option, Some, None}
use Rattle.std.specs.Int.RustNames.{int_le}
use Rattle.cdl_values.specs.History.{History, is_on, word}
use Rattle.cdl_kinds.specs.Meaning.Gates.{just_one}
use Rattle.cdl_kinds.specs.Meaning.Timers.{elapsed, true_false_hold}

-- what a hold gave at a time
pub record Output : Type 0 where
  pub time : ℤ
  pub on : Bool

abbrev pub output : ℤ → Bool → Output
output now y = record { time = now; on = y }

-- the Boolean of the one word
abbrev pub flag_of : Option (List ℤ) → Bool
flag_of None = false
flag_of (Some y) = is_on (word y 0)

-- what a hold gave at each tick, the latest first
abbrev pub outputs : ℤ → ℤ → History → List Output
outputs true_hold false_hold [] = []
outputs true_hold false_hold (t ∷ h) = output t.time (flag_of (true_false_hold true_hold false_hold h t.time t.ins)) ∷ outputs true_hold false_hold h

-- the time of the earliest of these outputs that are y without a break, or this where the first is not y
abbrev pub run_start : ℤ → Bool → List Output → ℤ
run_start time y [] = time
run_start time y (o ∷ os) = cond (just_one o.on y) time (run_start o.time y os)

-- when y changed last; the first tick counts as a change
abbrev pub last_change : List Output → ℤ
last_change [] = pos 0
last_change (o ∷ os) = run_start o.time o.on os

-- at the first tick u; then u where y has been held for its duration since it changed last, else y
abbrev pub hold_rule : ℤ → ℤ → List Output → ℤ → Bool → Bool
hold_rule true_hold false_hold [] now u = u
hold_rule true_hold false_hold (o ∷ os) now u = cond (int_le (cond o.on true_hold false_hold) (elapsed (last_change (o ∷ os)) now)) u o.on
