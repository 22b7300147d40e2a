-- A state that stands for a history is sound for the time of its last tick.
use Rattle.std.proofs.Common.{ℕ, ◌<◌, ◌≡◌, inl, inr, refl, ℤ, List, [], ◌∷◌, Option, Some, None, arith}
use Rattle.std.specs.Prelude.{pos, negsuc, ◌≤ℤ◌, unsigned_abs}
use Rattle.std.proofs.lemmas.Int.{ints}
use Rattle.cdl_decimal.specs.Near.{InRange}
use Rattle.cdl_kinds.specs.declared.kind.Kind.{Kind}
use Rattle.cdl_kinds.specs.declared.kind.Kind.TheVariants as kind
use Rattle.cdl_values.specs.declared.value.Array.{Array}
use Rattle.cdl_values.specs.declared.value.ValueType.TheVariants.{Boolean, Integer, Real}
use Rattle.cdl_kinds.specs.Conditions.{Keeps, is_positive, is_window}
use Rattle.cdl_values.specs.History.{History, Signature, IsHistory, IsValue, Meaning, before, bit, last_time}
use Rattle.cdl_kinds.proofs.Laws.{one_holds}
use Rattle.cdl_kinds.specs.Meaning.Discrete.{picked, sampled}
use Rattle.cdl_kinds.specs.Meaning.Edges.{latched, toggled}
use Rattle.cdl_kinds.specs.Meaning.Integers.{counted}
use Rattle.cdl_kinds.specs.Meaning.Reals.{above, above_threshold, below, below_threshold, between, remembered}
use Rattle.cdl_kinds.specs.Meaning.Timers.{Held, accumulated, always_on, held}
use Rattle.cdl_kinds.specs.Meanings.{meaning}
use Rattle.cdl_kinds.specs.Ports.{inputs}
use Rattle.cdl_kinds.specs.States.{IsAccumulatingState, IsHoldState, IsMeanState, IsSound, has_begun, hold_words, mean_words, state_of}
use Rattle.cdl_values.specs.Values.{boolean_at, integer_at, real_at}
use Rattle.cdl_kind_laws.proofs.ParameterRanges.{integer_in_range, not_empty, positive, real_in_range}
use Rattle.cdl_kind_laws.proofs.Past.{IsHeldUpTo, accumulated_added, began_up_to, caught_real, first_real, greatest_real, held_up_to, interval_up_to, no_samples, picked_reals, sampled_reals, samples_count, second_real}
use Rattle.cdl_kind_laws.proofs.ValueWords.{EachReal, before_value, bit_value, integer_fits, one_boolean, one_integer, padded_reals, three_values, two_booleans, two_values}
use Rattle.cdl_kind_laws.proofs.Widths.{length-mean_words}

accumulating_sound : {p : Signature} {m : Meaning} (h : History) → IsHistory p m h → IsValue Boolean (before (pos 0) 0 h) → IsValue Boolean (before (pos 1) 1 h)
    → IsAccumulatingState (accumulated h ∷ last_time h ∷ before (pos 0) 0 h ∷ before (pos 1) 1 h ∷ []) (last_time h)
accumulating_sound [] s f g = record {
  size = refl;
  time = record { low = omega (arith, ints); high = omega (arith, ints) };
  input = f;
  reset = g;
  none = λ _. (refl, refl);
  some = λ l. absurd (omega (arith, ints));
}
accumulating_sound (t ∷ h) s f g = record {
  size = refl;
  time = record { low = omega (arith, ints, s.ticks.0.0); high = omega (arith, ints) };
  input = f;
  reset = g;
  none = λ e. absurd (omega (arith, ints, s.ticks.0.0));
  some = λ _. accumulated_added t h s;
}

pub hold_words_sound : (o : Option Held) (last : ℤ) → negsuc 0 ≤ℤ last → IsHeldUpTo last o → IsHoldState (hold_words o) last
hold_words_sound None last l s = record { size = refl; output = inl refl; changed = record { low = omega (arith, ints); high = l } }
hold_words_sound (Some y) last l s = record { size = refl; output = bit_value y.on; changed = s }

pub last_low : {p : Signature} {m : Meaning} (h : History) → IsHistory p m h → negsuc 0 ≤ℤ last_time h
last_low [] s = omega (arith, ints)
last_low (t ∷ h) s = omega (arith, ints, s.ticks.0.0)

counted_small : (v : List Array) (h : History) → Keeps kind.IntegersOnCounter v → IsHistory (inputs kind.IntegersOnCounter v) (meaning kind.IntegersOnCounter v) h → IsValue Integer (counted (integer_at v 0) h)
counted_small v [] k s = integer_in_range kind.IntegersOnCounter v 0 k
counted_small v (t ∷ h) k s = integer_fits (counted (integer_at v 0) (t ∷ h)) s.ticks.3

mean_sound : {p : Signature} {m : Meaning} (n : ℕ) (h : History) → 0 < n → 1 < p.count → p.value_type 1 ≡ Boolean → EachReal (picked h) → IsHistory p m h → IsMeanState n (mean_words n h)
mean_sound n [] l i e r s = record { size = length-mean_words n []; count = inl (refl, no_samples n); spare = refl; samples = padded_reals n (picked []) r }
mean_sound n (t ∷ h) l i e r s = record {
  size = length-mean_words n (t ∷ h);
  count = inr (before_value Boolean (pos 0) 1 (t ∷ h) i e (inl refl) s, (samples_count n t h l).0, (samples_count n t h l).1);
  spare = refl;
  samples = padded_reals n (picked (t ∷ h)) r;
}

pub standing_sound : (k : Kind) (v : List Array) (h : History) → Keeps k v → IsHistory (inputs k v) (meaning k v) h → IsSound k v (state_of k v h) (last_time h)
standing_sound kind.LogicalAnd v h k s = refl
standing_sound kind.LogicalOr v h k s = refl
standing_sound kind.LogicalNand v h k s = refl
standing_sound kind.LogicalNor v h k s = refl
standing_sound kind.LogicalXor v h k s = refl
standing_sound kind.LogicalNot v h k s = refl
standing_sound kind.LogicalMultiAnd v h k s = refl
standing_sound kind.LogicalMultiOr v h k s = refl
standing_sound kind.LogicalEdge v h k s = one_boolean _ (before_value Boolean (bit (boolean_at v 0)) 0 h (omega arith) refl (bit_value (boolean_at v 0)) s)
standing_sound kind.LogicalFallingEdge v h k s = one_boolean _ (before_value Boolean (bit (boolean_at v 0)) 0 h (omega arith) refl (bit_value (boolean_at v 0)) s)
standing_sound kind.LogicalChange v h k s = one_boolean _ (before_value Boolean (bit (boolean_at v 0)) 0 h (omega arith) refl (bit_value (boolean_at v 0)) s)
standing_sound kind.LogicalLatch v h k s = two_booleans _ _ (bit_value (latched h)) (before_value Boolean (pos 0) 0 h (omega arith) refl (inl refl) s)
standing_sound kind.LogicalToggle v h k s = two_booleans _ _ (bit_value (toggled h)) (before_value Boolean (pos 0) 0 h (omega arith) refl (inl refl) s)
standing_sound kind.LogicalPre v h k s = one_boolean _ (before_value Boolean (bit (boolean_at v 0)) 0 h (omega arith) refl (bit_value (boolean_at v 0)) s)
standing_sound kind.LogicalSwitch v h k s = refl
standing_sound kind.IntegersSwitch v h k s = refl
standing_sound kind.RealsSwitch v h k s = refl
standing_sound kind.LogicalTimer v h k s = record { size = refl; begin = began_up_to h s; spare = refl }
standing_sound kind.LogicalTimerAccumulating v h k s = accumulating_sound h s (before_value Boolean (pos 0) 0 h (omega arith) refl (inl refl) s) (before_value Boolean (pos 1) 1 h (omega arith) refl (inr refl) s)
standing_sound kind.LogicalTrueDelay v h k s = record { size = refl; begin = began_up_to h s; always = bit_value (always_on h) }
standing_sound kind.LogicalTrueFalseHold v h k s = hold_words_sound (held (real_at v 0) (real_at v 1) h) (last_time h) (last_low h s) (held_up_to (real_at v 0) (real_at v 1) h s)
standing_sound kind.LogicalSourcesConstant v h k s = refl
standing_sound kind.IntegersSourcesConstant v h k s = refl
standing_sound kind.RealsSourcesConstant v h k s = refl
standing_sound kind.LogicalSourcesPulse v h k s = refl
standing_sound kind.IntegersAbs v h k s = refl
standing_sound kind.RealsAbs v h k s = refl
standing_sound kind.IntegersAdd v h k s = refl
standing_sound kind.IntegersSubtract v h k s = refl
standing_sound kind.IntegersMultiply v h k s = refl
standing_sound kind.IntegersMax v h k s = refl
standing_sound kind.IntegersMin v h k s = refl
standing_sound kind.IntegersAddParameter v h k s = refl
standing_sound kind.IntegersMultiSum v h k s = refl
standing_sound kind.IntegersEqual v h k s = refl
standing_sound kind.IntegersGreater v h k s = refl
standing_sound kind.IntegersGreaterEqual v h k s = refl
standing_sound kind.IntegersLess v h k s = refl
standing_sound kind.IntegersLessEqual v h k s = refl
standing_sound kind.IntegersGreaterThreshold v h k s = refl
standing_sound kind.IntegersGreaterEqualThreshold v h k s = refl
standing_sound kind.IntegersLessThreshold v h k s = refl
standing_sound kind.IntegersLessEqualThreshold v h k s = refl
standing_sound kind.IntegersChange v h k s = one_integer _ (before_value Integer (integer_at v 0) 0 h (omega arith) refl (integer_in_range kind.IntegersChange v 0 k) s)
standing_sound kind.IntegersOnCounter v h k s = three_values Integer Boolean Boolean _ _ _ (counted_small v h k s) (before_value Boolean (pos 1) 0 h (omega arith) refl (inr refl) s) (before_value Boolean (pos 1) 1 h (omega arith) refl (inr refl) s)
standing_sound kind.RealsAdd v h k s = refl
standing_sound kind.RealsSubtract v h k s = refl
standing_sound kind.RealsMultiply v h k s = refl
standing_sound kind.RealsDivide v h k s = refl
standing_sound kind.RealsMax v h k s = refl
standing_sound kind.RealsMin v h k s = refl
standing_sound kind.RealsAddParameter v h k s = refl
standing_sound kind.RealsMultiplyByParameter v h k s = refl
standing_sound kind.RealsAverage v h k s = refl
standing_sound kind.RealsModulo v h k s = refl
standing_sound kind.RealsMultiSum v h k s = refl
standing_sound kind.RealsMultiMax v h k s = refl
standing_sound kind.RealsMultiMin v h k s = refl
standing_sound kind.RealsGreater v h k s = one_boolean _ (bit_value (remembered (above (real_at v 0)) (boolean_at v 1) h))
standing_sound kind.RealsLess v h k s = one_boolean _ (bit_value (remembered (below (real_at v 0)) (boolean_at v 1) h))
standing_sound kind.RealsGreaterThreshold v h k s = one_boolean _ (bit_value (remembered (above_threshold (real_at v 0) (real_at v 1)) (boolean_at v 2) h))
standing_sound kind.RealsLessThreshold v h k s = one_boolean _ (bit_value (remembered (below_threshold (real_at v 0) (real_at v 1)) (boolean_at v 2) h))
standing_sound kind.RealsHysteresis v h k s = one_boolean _ (bit_value (remembered (between (real_at v 0) (real_at v 1)) (boolean_at v 2) h))
standing_sound kind.RealsLimiter v h k s = refl
standing_sound kind.RealsLine v h k s = refl
standing_sound kind.ConversionsBooleanToInteger v h k s = refl
standing_sound kind.ConversionsBooleanToReal v h k s = refl
standing_sound kind.ConversionsIntegerToReal v h k s = refl
standing_sound kind.ConversionsRealToInteger v h k s = refl
standing_sound kind.DiscreteSampler v h k s = record { size = refl; interval = interval_up_to (real_at v 0) h (positive (real_at v 0) (one_holds (is_positive (real_at v 0)) k.holds)) s; sample = first_real (pos 0) (sampled (real_at v 0) h) (omega arith) (sampled_reals (real_at v 0) h (omega arith) refl s) }
standing_sound kind.DiscreteZeroOrderHold v h k s = record { size = refl; interval = interval_up_to (real_at v 0) h (positive (real_at v 0) (one_holds (is_positive (real_at v 0)) k.holds)) s; sample = first_real (pos 0) (sampled (real_at v 0) h) (omega arith) (sampled_reals (real_at v 0) h (omega arith) refl s) }
standing_sound kind.DiscreteUnitDelay v h k s =
    let u : EachReal (sampled (real_at v 0) h) = sampled_reals (real_at v 0) h (omega arith) refl s in
    let f : InRange (real_at v 1) = real_in_range kind.DiscreteUnitDelay v 1 k in
    record { size = refl; interval = interval_up_to (real_at v 0) h (positive (real_at v 0) (one_holds (is_positive (real_at v 0)) k.holds)) s; older = second_real (real_at v 1) _ f u; newer = first_real (real_at v 1) _ f u }
standing_sound kind.DiscreteTriggeredSampler v h k s = two_values Boolean Real _ _ (before_value Boolean (pos 1) 1 h (omega arith) refl (inr refl) s) (caught_real (real_at v 0) h (real_in_range kind.DiscreteTriggeredSampler v 0 k) (omega arith) refl s)
standing_sound kind.DiscreteTriggeredMax v h k s = three_values Boolean Boolean Real _ _ _ (bit_value (has_begun h)) (before_value Boolean (pos 1) 1 h (omega arith) refl (inr refl) s) (greatest_real (picked h) (picked_reals h (omega arith) refl s))
standing_sound kind.DiscreteTriggeredMovingMean v h k s = mean_sound (unsigned_abs (integer_at v 0)) h (not_empty (integer_at v 0) (one_holds (is_window (integer_at v 0)) k.holds)) (omega arith) refl (picked_reals h (omega arith) refl s) s
standing_sound kind.RoutingBooleanScalarReplicator v h k s = refl
standing_sound kind.RoutingIntegerScalarReplicator v h k s = refl
standing_sound kind.RoutingRealScalarReplicator v h k s = refl
