-- What samplers keep, a tick further.
use Rattle.std.specs.Prelude.{ℤ, ◌≡◌, refl, Bool, true, false, cond, not, ◌&&◌, List, [], ◌∷◌, Some}
use Rattle.std.specs.Int.RustNames.{int_lt}
use Rattle.cdl_values.specs.History.{is_on, word}
use Rattle.cdl_kinds.specs.Meaning.Discrete.{interval, second_or}
use Rattle.cdl_values.specs.Extremes.{greater_of}

-- the first value where a tick is a sample tick, by the interval of the tick before, else the second
abbrev pub at_sample : ℤ → ℤ → ℤ → ℤ → ℤ → ℤ
at_sample period before now a b = cond (int_lt before (interval period now)) a b

-- u where trigger rises, from the trigger and the value before
abbrev pub catch_next : Bool → ℤ → List ℤ → ℤ
catch_next trigger value x = cond (is_on (word x 1) && not trigger) (word x 0) value

-- the greatest of the u that were picked, from whether there was a tick before, and the trigger and the greatest there
abbrev pub greatest_next : Bool → Bool → ℤ → List ℤ → ℤ
greatest_next begun trigger value x = cond begun (cond (is_on (word x 1) && not trigger) (greater_of (word x 0) value) value) (word x 0)

-- the sample before the last sample tick does not rest on the last sample
pub second_sample : (start : ℤ) (b : Bool) (w z : ℤ) (us : List ℤ) → Some (second_or start (cond b (w ∷ us) us) ∷ []) ≡ Some (second_or start (cond b (z ∷ us) us) ∷ [])
second_sample start true w z us = refl
second_sample start false w z us = refl
