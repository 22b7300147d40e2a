-- What holds of the running values of a history.
use Rattle.std.proofs.Common.{ℕ, ◌<◌, ◌≤◌, ◌≡◌, inl, inr, refl, ap, ℤ, List, [], ◌∷◌, Bool, true, false, cond, Option, Some, None, length, take, min, arith}
use Rattle.std.specs.Prelude.{pos, negsuc, ◌+ℤ◌, ◌*ℤ◌, ◌≤ℤ◌, ◌<ℤ◌}
use Rattle.std.specs.Int.{int_div_euclid}
use Rattle.std.specs.Int.RustNames.{int_le}
use Rattle.std.proofs.lemmas.Int.{ints}
use Rattle.std.proofs.lemmas.List.{length-take}
use Rattle.cdl_decimal.proofs.NearLaws.{euclid}
use Rattle.cdl_decimal.specs.Near.{InRange}
use Rattle.cdl_values.specs.declared.value.ValueType.TheVariants.{Real}
use Rattle.cdl_values.specs.History.{History, Signature, IsHistory, IsLater, IsTime, Meaning, Tick, is_on, last_time, rises, word}
use Rattle.cdl_kinds.specs.Meaning.Discrete.{caught, first_or, interval, picked, picks, sampled, samples, second_or}
use Rattle.cdl_values.specs.Extremes.{greatest}
use Rattle.cdl_kinds.specs.Meaning.Timers.{Held, accumulated, began, elapsed, held, held_from, or_now, run_length}
use Rattle.cdl_kinds.specs.States.{IsIntervalUpTo, IsTimeUpTo, last_interval, time_word}
use Rattle.cdl_kind_laws.proofs.ValueWords.{EachReal, before_value}

pub past : {p : Signature} {m : Meaning} (t : Tick) (h : History) → IsHistory p m (t ∷ h) → IsHistory p m h
past t h s = record { ticks = s.ticks.4 }

pub last_before : (now : ℤ) (h : History) → pos 0 ≤ℤ now → IsLater now h → last_time h <ℤ now
last_before now [] n l = omega (arith, ints)
last_before now (t ∷ h) n l = l

run_up_to : (u : Bool) (o : Option ℤ) (last now : ℤ) → IsTimeUpTo last (time_word o) → last <ℤ now → pos 0 ≤ℤ now → IsTimeUpTo now (time_word (cond u (Some (or_now o now)) None))
run_up_to true None last now s l n = record { low = omega (arith, ints); high = omega (arith, ints) }
run_up_to true (Some b) last now s l n = record { low = s.low; high = omega (arith, ints, s.high) }
run_up_to false o last now s l n = record { low = omega (arith, ints); high = omega (arith, ints) }

pub began_up_to : {p : Signature} {m : Meaning} (h : History) → IsHistory p m h → IsTimeUpTo (last_time h) (time_word (began h))
began_up_to [] s = record { low = omega (arith, ints); high = omega (arith, ints) }
began_up_to (t ∷ h) s = run_up_to (is_on (word t.ins 0)) (began h) (last_time h) t.time (began_up_to h (past t h s)) (last_before t.time h s.ticks.0.0 s.ticks.1) s.ticks.0.0

-- a run that begins from 0 to this time, if there is one
abbrev pub IsRunUpTo : ℤ → Option ℤ → Type 0
IsRunUpTo last None = Unit {0}
IsRunUpTo last (Some b) = (pos 0 ≤ℤ b) × (b ≤ℤ last)

run_step : (u : Bool) (o : Option ℤ) (last now : ℤ) → IsRunUpTo last o → last <ℤ now → pos 0 ≤ℤ now → IsRunUpTo now (cond u (Some (or_now o now)) None)
run_step true None last now s l n = (n, omega (arith, ints))
run_step true (Some b) last now s l n = (s.0, omega (arith, ints, s.1))
run_step false o last now s l n = tt

pub runs_up_to : {p : Signature} {m : Meaning} (h : History) → IsHistory p m h → IsRunUpTo (last_time h) (began h)
runs_up_to [] s = tt
runs_up_to (t ∷ h) s = run_step (is_on (word t.ins 0)) (began h) (last_time h) t.time (runs_up_to h (past t h s)) (last_before t.time h s.ticks.0.0 s.ticks.1) s.ticks.0.0

pub run_in_range : (o : Option ℤ) (now : ℤ) → IsTime now → IsRunUpTo now o → InRange (run_length o now)
run_in_range None now l s = omega arith
run_in_range (Some b) now l s = omega (arith, ints, l.0, l.1, s.0, s.1)

-- what was added up lies from 0 to the time of the latest tick
abbrev pub IsAdded : ℤ → ℤ → Type 0
IsAdded now y = (pos 0 ≤ℤ y) × (y ≤ℤ (now *ℤ pos 1000))

add_step : (r u : Bool) (y last now : ℤ) → IsAdded last y → last <ℤ now → pos 0 ≤ℤ now → IsAdded now (cond r (pos 0) (y +ℤ cond u (elapsed last now) (pos 0)))
add_step true u y last now s l n = (omega (arith, ints), omega (arith, ints))
add_step false true y last now s l n = (omega (arith, ints, s.0), omega (arith, ints, s.0, s.1))
add_step false false y last now s l n = (omega (arith, ints, s.0), omega (arith, ints, s.1))

pub accumulated_added : {p : Signature} {m : Meaning} (t : Tick) (h : History) → IsHistory p m (t ∷ h) → IsAdded t.time (accumulated (t ∷ h))
accumulated_added t [] s = (omega (arith, ints), omega (arith, ints, s.ticks.0.0))
accumulated_added t (a ∷ h) s = add_step (rises (a ∷ h) t.ins 1) (is_on (word a.ins 0)) (accumulated (a ∷ h)) a.time t.time (accumulated_added a h (past t (a ∷ h) s)) s.ticks.1 s.ticks.0.0

pick_held : (now : ℤ) (b : Bool) (x y : Held) → IsTimeUpTo now x.changed → IsTimeUpTo now y.changed → IsTimeUpTo now (cond b x y).changed
pick_held now true x y f g = f
pick_held now false x y f g = g

abbrev pub IsHeldUpTo : ℤ → Option Held → Type 0
IsHeldUpTo last None = Unit {0}
IsHeldUpTo last (Some y) = IsTimeUpTo last y.changed

held_step : (a b : ℤ) (o : Option Held) (last now : ℤ) (u : Bool) → IsHeldUpTo last o → last <ℤ now → pos 0 ≤ℤ now → IsTimeUpTo now (held_from a b o now u).changed
held_step a b None last now u s l n = record { low = omega (arith, ints); high = omega (arith, ints) }
held_step a b (Some y) last now u s l n =
    let f : IsTimeUpTo now y.changed = record { low = s.low; high = omega (arith, ints, s.high) } in
    let g : IsTimeUpTo now now = record { low = omega (arith, ints); high = omega (arith, ints) } in
    pick_held now (int_le (cond y.on a b) (elapsed y.changed now)) _ y
    (pick_held now u _ _ (pick_held now y.on y (record { on = true; changed = now }) f g) (pick_held now y.on (record { on = false; changed = now }) y g f)) f

pub held_up_to : {p : Signature} {m : Meaning} (a b : ℤ) (h : History) → IsHistory p m h → IsHeldUpTo (last_time h) (held a b h)
held_up_to a b [] s = tt
held_up_to a b (t ∷ h) s = held_step a b (held a b h) (last_time h) t.time (is_on (word t.ins 0)) (held_up_to a b h (past t h s)) (last_before t.time h s.ticks.0.0 s.ticks.1) s.ticks.0.0

interval_at : (d : ℕ) (time : ℤ) → 0 < d → pos 0 ≤ℤ time → (pos 0 ≤ℤ int_div_euclid (time *ℤ pos 1000) (pos d)) × ((int_div_euclid (time *ℤ pos 1000) (pos d) *ℤ pos d) ≤ℤ (time *ℤ pos 1000))
interval_at d (pos n) l h = (omega (arith, ints), omega (arith, ints, euclid (pos n *ℤ pos 1000) d l))
interval_at d (negsuc n) l h = absurd (omega (arith, ints))

pub interval_known : (period time : ℤ) → pos 0 <ℤ period → pos 0 ≤ℤ time → (pos 0 ≤ℤ interval period time) × ((interval period time *ℤ period) ≤ℤ (time *ℤ pos 1000))
interval_known (pos d) time p h = interval_at d time (omega (arith, ints)) h
interval_known (negsuc d) time p h = absurd (omega (arith, ints))

pub interval_up_to : {p : Signature} {m : Meaning} (period : ℤ) (h : History) → pos 0 <ℤ period → IsHistory p m h → IsIntervalUpTo period (last_time h) (last_interval period h)
interval_up_to period [] l s = inl refl
interval_up_to period (t ∷ h) l s = inr (interval_known period t.time l s.ticks.0.0)

keep_real : (b : Bool) (w : ℤ) (us : List ℤ) → InRange w → EachReal us → EachReal (cond b (w ∷ us) us)
keep_real true w us f s = (f, s)
keep_real false w us f s = s

choose_real : (b : Bool) (w z : ℤ) → InRange w → InRange z → InRange (cond b w z)
choose_real true w z f g = f
choose_real false w z f g = g

pub first_real : (d : ℤ) (us : List ℤ) → InRange d → EachReal us → InRange (first_or d us)
first_real d [] f s = f
first_real d (u ∷ us) f s = s.0

pub second_real : (d : ℤ) (us : List ℤ) → InRange d → EachReal us → InRange (second_or d us)
second_real d [] f s = f
second_real d (u ∷ us) f s = first_real d us f s.1

latest_real : {p : Signature} {m : Meaning} (t : Tick) (h : History) → 0 < p.count → p.value_type 0 ≡ Real → IsHistory p m (t ∷ h) → InRange (word t.ins 0)
latest_real t h l e s = before_value Real (pos 0) 0 (t ∷ h) l e (omega arith) s

pub sampled_reals : {p : Signature} {m : Meaning} (period : ℤ) (h : History) → 0 < p.count → p.value_type 0 ≡ Real → IsHistory p m h → EachReal (sampled period h)
sampled_reals period [] l e s = tt
sampled_reals period (t ∷ h) l e s = keep_real (samples period h t.time) (word t.ins 0) (sampled period h) (latest_real t h l e s) (sampled_reals period h l e (past t h s))

pub picked_reals : {p : Signature} {m : Meaning} (h : History) → 0 < p.count → p.value_type 0 ≡ Real → IsHistory p m h → EachReal (picked h)
picked_reals [] l e s = tt
picked_reals (t ∷ h) l e s = keep_real (picks h t.ins) (word t.ins 0) (picked h) (latest_real t h l e s) (picked_reals h l e (past t h s))

pub caught_real : {p : Signature} {m : Meaning} (start : ℤ) (h : History) → InRange start → 0 < p.count → p.value_type 0 ≡ Real → IsHistory p m h → InRange (caught start h)
caught_real start [] f l e s = f
caught_real start (t ∷ h) f l e s = choose_real (rises h t.ins 1) (word t.ins 0) (caught start h) (latest_real t h l e s) (caught_real start h f l e (past t h s))

pub greatest_real : (us : List ℤ) → EachReal us → InRange (greatest us)
greatest_real [] s = omega arith
greatest_real (u ∷ []) s = s.0
greatest_real (u ∷ w ∷ us) s = choose_real (int_le u (greatest (w ∷ us))) (greatest (w ∷ us)) u (greatest_real (w ∷ us) s.1) s.0

one_more : (b : Bool) (w : ℤ) (us : List ℤ) → 1 ≤ length us → 1 ≤ length (cond b (w ∷ us) us)
one_more true w us l = omega arith
one_more false w us l = l

pub picked_some : (t : Tick) (h : History) → 1 ≤ length (picked (t ∷ h))
picked_some t [] = omega arith
picked_some t (a ∷ h) = one_more (picks (a ∷ h) t.ins) (word t.ins 0) (picked (a ∷ h)) (picked_some a h)

pub samples_count : (n : ℕ) (t : Tick) (h : History) → 0 < n → (pos 1 ≤ℤ pos (length (take n (picked (t ∷ h))))) × (pos (length (take n (picked (t ∷ h)))) ≤ℤ pos n)
samples_count n t h l =
    let e : length (take n (picked (t ∷ h))) ≡ min n (length (picked (t ∷ h))) = length-take n (picked (t ∷ h)) in
    let s : 1 ≤ length (picked (t ∷ h)) = picked_some t h in
    (omega (arith, ints), omega (arith, ints))

pub no_samples : (n : ℕ) → pos (length (take n (picked []))) ≡ pos 0
no_samples n = let e : length (take n (picked [])) ≡ 0 = omega (arith, length-take n (picked [])) in ap pos e
