-- Samples and picks, a tick further.
use Rattle.std.proofs.Common.{◌≡◌, ◌≤◌, ap, inr, refl, ℤ, List, [], ◌∷◌, Bool, true, false, cond, length, arith}
use Rattle.std.specs.Prelude.{pos, negsuc, ◌≤ℤ◌, ◌<ℤ◌}
use Rattle.std.specs.Int.RustNames.{int_lt}
use Rattle.std.proofs.lemmas.Int.{ints}
use Rattle.cdl_decimal.specs.Near.{InRange}
use Rattle.cdl_values.specs.declared.value.ValueType.TheVariants.{Boolean, Real}
use Rattle.cdl_values.specs.History.{AreValues, History, IsHistory, before, bit, is_on, last_time, later, reals, rises, tick, typed, word}
use Rattle.cdl_kinds.specs.Meaning.Discrete.{caught, first_or, interval, picked, sampled, sampler, samples, second_or, triggered_max, triggered_sampler, unit_delay}
use Rattle.cdl_values.specs.Extremes.{greater_of, greatest}
use Rattle.cdl_kinds.specs.States.{IsSamplerState, IsUnitDelayState, has_begun, last_interval}
use Rattle.cdl_kind_laws.proofs.Past.{caught_real, first_real, greatest_real, interval_up_to, picked_reals, sampled_reals, second_real, picked_some, interval_known}
use Rattle.cdl_kind_laws.proofs.ValueWords.{before_value, bit_value, one_word, three_values, two_values}
use Rattle.cdl_discrete.specs.Samples.{at_sample, greatest_next}
use Rattle.cdl_timed.proofs.ValueStates.{bit_again}

pub one_real : (z w : ℤ) (y : List ℤ) → y ≡ z ∷ [] → z ≡ w → InRange w → AreValues (reals 1) y
one_real z w y e f r = rw (e, f) (record { size = refl; each = one_word Real w r })

above_none : (z : ℤ) → pos 0 ≤ℤ z → int_lt (negsuc 0) z ≡ true
above_none (pos n) l = refl
above_none (negsuc n) l = absurd (omega (arith, ints))

-- a sample tick is told by the interval of the tick before
samples_by : (period now : ℤ) (h : History) → pos 0 <ℤ period → pos 0 ≤ℤ now → int_lt (last_interval period h) (interval period now) ≡ samples period h now
samples_by period now [] p l = above_none (interval period now) (interval_known period now p l).0
samples_by period now (t ∷ h) p l = refl

first_of : (d u : ℤ) (b : Bool) (us : List ℤ) → cond b u (first_or d us) ≡ first_or d (cond b (u ∷ us) us)
first_of d u true us = refl
first_of d u false us = refl

second_of : (d u : ℤ) (b : Bool) (us : List ℤ) → cond b (first_or d us) (second_or d us) ≡ second_or d (cond b (u ∷ us) us)
second_of d u true us = refl
second_of d u false us = refl

pub sampler_stands : (period now n i v : ℤ) (s x y : List ℤ) (h : History) → pos 0 <ℤ period → pos 0 ≤ℤ now → s ≡ last_interval period h ∷ first_or (pos 0) (sampled period h) ∷ []
    → n ≡ now → i ≡ interval period n → v ≡ at_sample period (word s 0) n (word x 0) (word s 1) → y ≡ i ∷ v ∷ []
    → y ≡ last_interval period (tick now x ∷ h) ∷ first_or (pos 0) (sampled period (tick now x ∷ h)) ∷ []
sampler_stands period now n i v s x y h p l e f g k j =
    rw (j, k, g, f, e) (rw (samples_by period now h p l, first_of (pos 0) (word x 0) (samples period h now) (sampled period h)) refl)

pub sampler_sound : (period last : ℤ) (s : List ℤ) (h : History) → pos 0 <ℤ period → IsHistory (reals 1) (sampler period) h → s ≡ last_interval period h ∷ first_or (pos 0) (sampled period h) ∷ [] → last ≡ last_time h → IsSamplerState period s last
sampler_sound period last s h p i e l =
    rw (e, l) (record { size = refl; interval = interval_up_to period h p i; sample = first_real (pos 0) (sampled period h) (omega arith) (sampled_reals period h (omega arith) refl i) })

pub unit_delay_stands : (period start now n i v w : ℤ) (s x y : List ℤ) (h : History) → pos 0 <ℤ period → pos 0 ≤ℤ now → s ≡ last_interval period h ∷ second_or start (sampled period h) ∷ first_or start (sampled period h) ∷ []
    → n ≡ now → i ≡ interval period n → v ≡ at_sample period (word s 0) n (word s 2) (word s 1) → w ≡ at_sample period (word s 0) n (word x 0) (word s 2) → y ≡ i ∷ v ∷ w ∷ []
    → y ≡ last_interval period (tick now x ∷ h) ∷ second_or start (sampled period (tick now x ∷ h)) ∷ first_or start (sampled period (tick now x ∷ h)) ∷ []
unit_delay_stands period start now n i v w s x y h p l e f g k q j =
    rw (j, q, k, g, f, e) (rw (samples_by period now h p l, first_of start (word x 0) (samples period h now) (sampled period h), second_of start (word x 0) (samples period h now) (sampled period h)) refl)

pub unit_delay_sound : (period start last : ℤ) (s : List ℤ) (h : History) → pos 0 <ℤ period → InRange start → IsHistory (later Real) (unit_delay period start) h → s ≡ last_interval period h ∷ second_or start (sampled period h) ∷ first_or start (sampled period h) ∷ [] → last ≡ last_time h
    → IsUnitDelayState period s last
unit_delay_sound period start last s h p r i e l =
    let u = sampled_reals period h (omega arith) refl i in
    rw (e, l) (record { size = refl; interval = interval_up_to period h p i; older = second_real start (sampled period h) r u; newer = first_real start (sampled period h) r u })

pub caught_sound : (start : ℤ) (s : List ℤ) (h : History) → InRange start → IsHistory (typed (Real ∷ Boolean ∷ [])) (triggered_sampler start) h → s ≡ before (pos 1) 1 h ∷ caught start h ∷ [] → AreValues (typed (Boolean ∷ Real ∷ [])) s
caught_sound start s h r i e = rw e (two_values Boolean Real _ _ (before_value Boolean (pos 1) 1 h (omega arith) refl (inr refl) i) (caught_real start h r (omega arith) refl i))

pub greatest_sound : (s : List ℤ) (h : History) → IsHistory (typed (Real ∷ Boolean ∷ [])) triggered_max h → s ≡ bit (has_begun h) ∷ before (pos 1) 1 h ∷ greatest (picked h) ∷ [] → AreValues (typed (Boolean ∷ Boolean ∷ Real ∷ [])) s
greatest_sound s h i e = rw e (three_values Boolean Boolean Real _ _ _ (bit_value (has_begun h)) (before_value Boolean (pos 1) 1 h (omega arith) refl (inr refl) i) (greatest_real (picked h) (picked_reals h (omega arith) refl i)))

greatest_more : (b : Bool) (u : ℤ) (us : List ℤ) → 1 ≤ length us → cond b (greater_of u (greatest us)) (greatest us) ≡ greatest (cond b (u ∷ us) us)
greatest_more b u [] l = absurd (omega arith)
greatest_more true u (v ∷ us) l = refl
greatest_more false u (v ∷ us) l = refl

greatest_by : (now : ℤ) (x : List ℤ) (h : History) → greatest_next (is_on (bit (has_begun h))) (is_on (before (pos 1) 1 h)) (greatest (picked h)) x ≡ greatest (picked (tick now x ∷ h))
greatest_by now x [] = refl
greatest_by now x (t ∷ h) = greatest_more (rises (t ∷ h) x 1) (word x 0) (picked (t ∷ h)) (picked_some t h)

pub greatest_further : (now g r : ℤ) (b t : Bool) (s x : List ℤ) (h : History) → s ≡ bit (has_begun h) ∷ before (pos 1) 1 h ∷ greatest (picked h) ∷ [] → b ≡ is_on (word s 0) → t ≡ is_on (word s 1) → g ≡ word s 2
    → r ≡ greatest_next b t g x → r ≡ greatest (picked (tick now x ∷ h))
greatest_further now g r b t s x h e f i j k = rw (k, f, i, j, e) (greatest_by now x h)

pub greatest_stands : (now g r : ℤ) (b t q a : Bool) (s x y : List ℤ) (h : History) → AreValues (typed (Real ∷ Boolean ∷ [])) x → s ≡ bit (has_begun h) ∷ before (pos 1) 1 h ∷ greatest (picked h) ∷ [] → b ≡ is_on (word s 0) → t ≡ is_on (word s 1) → g ≡ word s 2
    → r ≡ greatest_next b t g x → a ≡ true → q ≡ is_on (word x 1) → y ≡ bit a ∷ bit q ∷ r ∷ [] → y ≡ pos 1 ∷ word x 1 ∷ greatest (picked (tick now x ∷ h)) ∷ []
greatest_stands now g r b t q a s x y h v e f i j k l m n =
    rw (n, l, m) (rw (bit_again (word x 1) (v.each 1 (omega arith))) (ap (λ (z : ℤ). pos 1 ∷ word x 1 ∷ z ∷ []) (greatest_further now g r b t s x h e f i j k)))
