-- Holds, read from their words, a tick further.
use Rattle.std.proofs.Common.{◌≡◌, refl, ℤ, List, [], ◌∷◌, Bool, true, false, cond, Option, Some, None, arith}
use Rattle.std.specs.Prelude.{pos, negsuc, ◌≤ℤ◌}
use Rattle.std.specs.Int.RustNames.{int_le}
use Rattle.std.proofs.lemmas.Int.{ints}
use Rattle.cdl_values.specs.History.{History, Signature, IsHistory, Meaning, bit, is_on, last_time, tick, word}
use Rattle.cdl_kinds.specs.Meaning.Timers.{Held, elapsed, held, held_from, true_false_hold}
use Rattle.cdl_kinds.specs.States.{IsHoldState, hold_words, time_word}
use Rattle.cdl_kind_laws.proofs.Past.{held_up_to, past}
use Rattle.cdl_kind_laws.proofs.Standing.{hold_words_sound, last_low}
use Rattle.cdl_timed.specs.Holding.{held_with}
use Rattle.cdl_timed.specs.Runs.{time_of}
use Rattle.cdl_timed.proofs.RunStates.{on_bit}

abbrev ChangedFromZero : Option Held → Type 0
ChangedFromZero None = Unit {0}
ChangedFromZero (Some y) = pos 0 ≤ℤ y.changed

pick : (b : Bool) (x y : Held) → pos 0 ≤ℤ x.changed → pos 0 ≤ℤ y.changed → pos 0 ≤ℤ (cond b x y).changed
pick true x y f g = f
pick false x y f g = g

step : (a b : ℤ) (o : Option Held) (now : ℤ) (u : Bool) → ChangedFromZero o → pos 0 ≤ℤ now → pos 0 ≤ℤ (held_from a b o now u).changed
step a b None now u s n = n
step a b (Some y) now u s n =
    pick (int_le (cond y.on a b) (elapsed y.changed now)) _ y (pick u _ _ (pick y.on y (record { on = true; changed = now }) s n) (pick y.on (record { on = false; changed = now }) y n s)) s

changed_from_zero : {p : Signature} {m : Meaning} (a b : ℤ) (h : History) → IsHistory p m h → ChangedFromZero (held a b h)
changed_from_zero a b [] s = tt
changed_from_zero a b (t ∷ h) s = step a b (held a b h) t.time (is_on (word t.ins 0)) (changed_from_zero a b h (past t h s)) s.ticks.0.0

time_again : (t : ℤ) → pos 0 ≤ℤ t → time_of t ≡ Some t
time_again (pos n) l = refl
time_again (negsuc n) l = absurd (omega (arith, ints))

hold_again : (o : Option Held) → ChangedFromZero o → held_with (is_on (word (hold_words o) 0)) (time_of (word (hold_words o) 1)) ≡ o
hold_again None s = refl
hold_again (Some y) s = rw (on_bit y.on, time_again y.changed s) refl

pub hold_gives : {p : Signature} {m : Meaning} (a b now n : ℤ) (s x y : List ℤ) (h : History) (was r u : Bool) (changed : Option ℤ) → IsHistory p m h → s ≡ hold_words (held a b h) → was ≡ is_on (word s 0) → changed ≡ time_of (word s 1)
    → n ≡ now → u ≡ is_on (word x 0) → r ≡ (held_from a b (held_with was changed) n u).on → y ≡ bit r ∷ [] → true_false_hold a b h now x ≡ Some y
hold_gives a b now n s x y h was r u changed i e f g j k l q = rw (q, l, k, j, f, g, e) (rw (hold_again (held a b h) (changed_from_zero a b h i)) refl)

pub hold_stands : {p : Signature} {m : Meaning} (a b now n : ℤ) (s x y : List ℤ) (h : History) (was r u : Bool) (changed c : Option ℤ) → IsHistory p m (tick now x ∷ h) → s ≡ hold_words (held a b h) → was ≡ is_on (word s 0) → changed ≡ time_of (word s 1)
    → n ≡ now → u ≡ is_on (word x 0) → r ≡ (held_from a b (held_with was changed) n u).on → c ≡ Some ((held_from a b (held_with was changed) n u).changed) → y ≡ bit r ∷ time_word c ∷ [] → y ≡ hold_words (held a b (tick now x ∷ h))
hold_stands a b now n s x y h was r u changed c i e f g j k l v q = rw (q, v, l, k, j, f, g, e) (rw (hold_again (held a b h) (changed_from_zero a b h (past (tick now x) h i))) refl)

pub hold_sound : {p : Signature} {m : Meaning} (a b last : ℤ) (s : List ℤ) (h : History) → IsHistory p m h → s ≡ hold_words (held a b h) → last ≡ last_time h → IsHoldState s last
hold_sound a b last s h i e l = rw (e, l) (hold_words_sound (held a b h) (last_time h) (last_low h i) (held_up_to a b h i))
