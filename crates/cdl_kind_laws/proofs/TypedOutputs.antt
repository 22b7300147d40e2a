-- From inputs of their types, at a history, a block gives values of its outputs' types.
use Rattle.std.proofs.Common.{ℕ, ◌≡◌, refl, subst, ℤ, List, [], ◌∷◌, Option, Some, arith}
use Rattle.std.specs.Prelude.{IsSome, pos, ◌+ℤ◌, ◌-ℤ◌, ◌*ℤ◌, unsigned_abs, take}
use Rattle.std.specs.Int.RustNames.{int_le}
use Rattle.cdl_kinds.specs.declared.kind.Kind.{Kind}
use Rattle.cdl_kinds.specs.declared.kind.Kind.TheVariants as kind
use Rattle.cdl_decimal.specs.Counts.{dot, nearest_whole, real_add, real_div, real_line, real_mean, real_modulo, real_mul, real_sub, real_to_integer, real_weighted_sum}
use Rattle.cdl_values.specs.declared.value.Array.{Array}
use Rattle.cdl_values.specs.declared.value.ValueType.{ValueType}
use Rattle.cdl_values.specs.declared.value.ValueType.TheVariants.{Boolean, Integer, Real}
use Rattle.cdl_kinds.specs.Conditions.{Keeps}
use Rattle.cdl_values.specs.History.{AreValues, History, Signature, IsHistory, IsLater, IsTime, IsValue, Meaning, Tick, bit, is_on, tick, word}
use Rattle.cdl_kinds.specs.Meaning.Discrete.{picked, sampled}
use Rattle.cdl_kinds.specs.Meaning.Integers.{counted, magnitude}
use Rattle.cdl_values.specs.Extremes.{greater_of, lesser_of}
use Rattle.cdl_kinds.specs.Meaning.Reals.{limited}
use Rattle.cdl_kinds.specs.Meaning.Timers.{began}
use Rattle.cdl_kinds.specs.Meanings.{meaning}
use Rattle.cdl_kinds.specs.Ports.{inputs, outputs, nin_or_nout}
use Rattle.cdl_values.specs.Values.{boolean_at, integer_at, integers_at, real_at, reals_at}
use Rattle.cdl_kind_laws.proofs.ParameterRanges.{integer_in_range, real_in_range}
use Rattle.cdl_kind_laws.proofs.Past.{accumulated_added, caught_real, first_real, greatest_real, past, picked_reals, run_in_range, runs_up_to, sampled_reals, second_real}
use Rattle.cdl_kind_laws.proofs.TypedWords.{add_real, div_real, line_real, mean_real, modulo_real, mul_real, sub_real, weighted_real, added_in_range, any_typed, choose_value, copies_typed, each_real, flag_typed, in_range_integer, integer_typed, least_real, million_in_range, three_typed, two_typed, word_typed}
use Rattle.cdl_kind_laws.proofs.ValueWords.{EachReal, before_value, bit_value}

-- the inputs of the latest tick
values : {p : Signature} {m : Meaning} (t : Tick) (h : History) → IsHistory p m (t ∷ h) → AreValues p t.ins
values t h s = s.ticks.2

all_reals : {p : Signature} {m : Meaning} (t : Tick) (h : History) → ((i : ℕ) → p.value_type i ≡ Real) → IsHistory p m (t ∷ h) → EachReal t.ins
all_reals {p} t h f s = each_real t.ins (λ i l. subst (λ (r : ValueType). IsValue r (word t.ins i)) (f i) (s.ticks.2.each i (omega (arith, s.ticks.2.size))))

typed_at : (k : Kind) (v : List Array) (t : Tick) (h : History) (y : List ℤ) → Keeps k v → IsHistory (inputs k v) (meaning k v) (t ∷ h) → meaning k v h t.time t.ins ≡ Some y → AreValues (outputs k v) y
typed_at kind.LogicalAnd v t h y k s e = flag_typed _ y e
typed_at kind.LogicalOr v t h y k s e = flag_typed _ y e
typed_at kind.LogicalNand v t h y k s e = flag_typed _ y e
typed_at kind.LogicalNor v t h y k s e = flag_typed _ y e
typed_at kind.LogicalXor v t h y k s e = flag_typed _ y e
typed_at kind.LogicalNot v t h y k s e = flag_typed _ y e
typed_at kind.LogicalMultiAnd v t h y k s e = flag_typed _ y e
typed_at kind.LogicalMultiOr v t h y k s e = flag_typed _ y e
typed_at kind.LogicalEdge v t h y k s e = flag_typed _ y e
typed_at kind.LogicalFallingEdge v t h y k s e = flag_typed _ y e
typed_at kind.LogicalChange v t h y k s e = flag_typed _ y e
typed_at kind.LogicalLatch v t h y k s e = flag_typed _ y e
typed_at kind.LogicalToggle v t h y k s e = flag_typed _ y e
typed_at kind.LogicalPre v t h y k s e = word_typed Boolean _ y (before_value Boolean (bit (boolean_at v 0)) 0 h (omega arith) refl (bit_value (boolean_at v 0)) (past t h s)) e
typed_at kind.LogicalSwitch v t h y k s e = word_typed Boolean _ y (choose_value Boolean (is_on (word t.ins 1)) (word t.ins 0) (word t.ins 2) ((values t h s).each 0 (omega arith)) ((values t h s).each 2 (omega arith))) e
typed_at kind.IntegersSwitch v t h y k s e = word_typed Integer _ y (choose_value Integer (is_on (word t.ins 1)) (word t.ins 0) (word t.ins 2) ((values t h s).each 0 (omega arith)) ((values t h s).each 2 (omega arith))) e
typed_at kind.RealsSwitch v t h y k s e = word_typed Real _ y (choose_value Real (is_on (word t.ins 1)) (word t.ins 0) (word t.ins 2) ((values t h s).each 0 (omega arith)) ((values t h s).each 2 (omega arith))) e
typed_at kind.LogicalTimer v t h y k s e = two_typed Real Boolean _ _ y (run_in_range (began (t ∷ h)) t.time s.ticks.0 (runs_up_to (t ∷ h) s)) (bit_value _) e
typed_at kind.LogicalTimerAccumulating v t h y k s e = two_typed Real Boolean _ _ y (added_in_range t.time _ s.ticks.0 (accumulated_added t h s)) (bit_value _) e
typed_at kind.LogicalTrueDelay v t h y k s e = flag_typed _ y e
typed_at kind.LogicalTrueFalseHold v t h y k s e = flag_typed _ y e
typed_at kind.LogicalSourcesConstant v t h y k s e = word_typed Boolean _ y (bit_value (boolean_at v 0)) e
typed_at kind.IntegersSourcesConstant v t h y k s e = word_typed Integer _ y (integer_in_range kind.IntegersSourcesConstant v 0 k) e
typed_at kind.RealsSourcesConstant v t h y k s e = word_typed Real _ y (real_in_range kind.RealsSourcesConstant v 0 k) e
typed_at kind.LogicalSourcesPulse v t h y k s e = flag_typed _ y e
typed_at kind.IntegersAbs v t h y k s e = integer_typed (magnitude (word t.ins 0)) y e
typed_at kind.RealsAbs v t h y k s e = any_typed Real (Some (pos (unsigned_abs (word t.ins 0)))) y ((values t h s).each 0 (omega arith)) e
typed_at kind.IntegersAdd v t h y k s e = integer_typed ((word t.ins 0) +ℤ (word t.ins 1)) y e
typed_at kind.IntegersSubtract v t h y k s e = integer_typed ((word t.ins 0) -ℤ (word t.ins 1)) y e
typed_at kind.IntegersMultiply v t h y k s e = integer_typed ((word t.ins 0) *ℤ (word t.ins 1)) y e
typed_at kind.IntegersMax v t h y k s e = integer_typed (greater_of (word t.ins 0) (word t.ins 1)) y e
typed_at kind.IntegersMin v t h y k s e = integer_typed (lesser_of (word t.ins 0) (word t.ins 1)) y e
typed_at kind.IntegersAddParameter v t h y k s e = integer_typed ((word t.ins 0) +ℤ integer_at v 0) y e
typed_at kind.IntegersMultiSum v t h y k s e = integer_typed (dot (integers_at v 1) t.ins) y e
typed_at kind.IntegersEqual v t h y k s e = flag_typed _ y e
typed_at kind.IntegersGreater v t h y k s e = flag_typed _ y e
typed_at kind.IntegersGreaterEqual v t h y k s e = flag_typed _ y e
typed_at kind.IntegersLess v t h y k s e = flag_typed _ y e
typed_at kind.IntegersLessEqual v t h y k s e = flag_typed _ y e
typed_at kind.IntegersGreaterThreshold v t h y k s e = flag_typed _ y e
typed_at kind.IntegersGreaterEqualThreshold v t h y k s e = flag_typed _ y e
typed_at kind.IntegersLessThreshold v t h y k s e = flag_typed _ y e
typed_at kind.IntegersLessEqualThreshold v t h y k s e = flag_typed _ y e
typed_at kind.IntegersChange v t h y k s e = three_typed Boolean Boolean Boolean _ _ _ y (bit_value _) (bit_value _) (bit_value _) e
typed_at kind.IntegersOnCounter v t h y k s e = integer_typed (counted (integer_at v 0) (t ∷ h)) y e
typed_at kind.RealsAdd v t h y k s e = any_typed Real (real_add (word t.ins 0) (word t.ins 1)) y (add_real (word t.ins 0) (word t.ins 1)) e
typed_at kind.RealsSubtract v t h y k s e = any_typed Real (real_sub (word t.ins 0) (word t.ins 1)) y (sub_real (word t.ins 0) (word t.ins 1)) e
typed_at kind.RealsMultiply v t h y k s e = any_typed Real (real_mul (word t.ins 0) (word t.ins 1)) y (mul_real (word t.ins 0) (word t.ins 1)) e
typed_at kind.RealsDivide v t h y k s e = any_typed Real (real_div (word t.ins 0) (word t.ins 1)) y (div_real (word t.ins 0) (word t.ins 1)) e
typed_at kind.RealsMax v t h y k s e = any_typed Real (Some (greater_of (word t.ins 0) (word t.ins 1))) y (choose_value Real (int_le (word t.ins 0) (word t.ins 1)) (word t.ins 1) (word t.ins 0) ((values t h s).each 1 (omega arith)) ((values t h s).each 0 (omega arith))) e
typed_at kind.RealsMin v t h y k s e = any_typed Real (Some (lesser_of (word t.ins 0) (word t.ins 1))) y (choose_value Real (int_le (word t.ins 0) (word t.ins 1)) (word t.ins 0) (word t.ins 1) ((values t h s).each 0 (omega arith)) ((values t h s).each 1 (omega arith))) e
typed_at kind.RealsAddParameter v t h y k s e = any_typed Real (real_add (word t.ins 0) (real_at v 0)) y (add_real (word t.ins 0) (real_at v 0)) e
typed_at kind.RealsMultiplyByParameter v t h y k s e = any_typed Real (real_mul (word t.ins 0) (real_at v 0)) y (mul_real (word t.ins 0) (real_at v 0)) e
typed_at kind.RealsAverage v t h y k s e = any_typed Real (real_mean ((word t.ins 0) ∷ (word t.ins 1) ∷ [])) y (mean_real ((word t.ins 0) ∷ (word t.ins 1) ∷ [])) e
typed_at kind.RealsModulo v t h y k s e = any_typed Real (real_modulo (word t.ins 0) (word t.ins 1)) y (modulo_real (word t.ins 0) (word t.ins 1)) e
typed_at kind.RealsMultiSum v t h y k s e = any_typed Real (real_weighted_sum (reals_at v 1) t.ins) y (weighted_real (reals_at v 1) t.ins) e
typed_at kind.RealsMultiMax v t h y k s e = word_typed Real _ y (greatest_real t.ins (all_reals t h (λ _. refl) s)) e
typed_at kind.RealsMultiMin v t h y k s e = word_typed Real _ y (least_real t.ins (all_reals t h (λ _. refl) s)) e
typed_at kind.RealsGreater v t h y k s e = flag_typed _ y e
typed_at kind.RealsLess v t h y k s e = flag_typed _ y e
typed_at kind.RealsGreaterThreshold v t h y k s e = flag_typed _ y e
typed_at kind.RealsLessThreshold v t h y k s e = flag_typed _ y e
typed_at kind.RealsHysteresis v t h y k s e = flag_typed _ y e
typed_at kind.RealsLimiter v t h y k s e = word_typed Real _ y (choose_value Real (int_le (real_at v 1) (lesser_of (real_at v 0) (word t.ins 0))) (lesser_of (real_at v 0) (word t.ins 0)) (real_at v 1) (choose_value Real (int_le (real_at v 0) (word t.ins 0)) (real_at v 0) (word t.ins 0) (real_in_range kind.RealsLimiter v 0 k) ((values t h s).each 0 (omega arith))) (real_in_range kind.RealsLimiter v 1 k)) e
typed_at kind.RealsLine v t h y k s e = any_typed Real (real_line (word t.ins 0) (word t.ins 1) (word t.ins 2) (word t.ins 3) (limited (boolean_at v 0) (boolean_at v 1) (word t.ins 0) (word t.ins 2) (word t.ins 4))) y (line_real (word t.ins 0) (word t.ins 1) (word t.ins 2) (word t.ins 3) (limited (boolean_at v 0) (boolean_at v 1) (word t.ins 0) (word t.ins 2) (word t.ins 4))) e
typed_at kind.ConversionsBooleanToInteger v t h y k s e = word_typed Integer _ y (choose_value Integer (is_on (word t.ins 0)) (integer_at v 0) (integer_at v 1) (integer_in_range kind.ConversionsBooleanToInteger v 0 k) (integer_in_range kind.ConversionsBooleanToInteger v 1 k)) e
typed_at kind.ConversionsBooleanToReal v t h y k s e = word_typed Real _ y (choose_value Real (is_on (word t.ins 0)) (real_at v 0) (real_at v 1) (real_in_range kind.ConversionsBooleanToReal v 0 k) (real_in_range kind.ConversionsBooleanToReal v 1 k)) e
typed_at kind.ConversionsIntegerToReal v t h y k s e = word_typed Real _ y (million_in_range (word t.ins 0) ((values t h s).each 0 (omega arith))) e
typed_at kind.ConversionsRealToInteger v t h y k s e = any_typed Integer (real_to_integer (word t.ins 0)) y (in_range_integer (nearest_whole (word t.ins 0))) e
typed_at kind.DiscreteSampler v t h y k s e = word_typed Real _ y (first_real (pos 0) (sampled (real_at v 0) (t ∷ h)) (omega arith) (sampled_reals (real_at v 0) (t ∷ h) (omega arith) refl s)) e
typed_at kind.DiscreteZeroOrderHold v t h y k s e = word_typed Real _ y (first_real (pos 0) (sampled (real_at v 0) (t ∷ h)) (omega arith) (sampled_reals (real_at v 0) (t ∷ h) (omega arith) refl s)) e
typed_at kind.DiscreteUnitDelay v t h y k s e = word_typed Real _ y (second_real (real_at v 1) (sampled (real_at v 0) (t ∷ h)) (real_in_range kind.DiscreteUnitDelay v 1 k) (sampled_reals (real_at v 0) (t ∷ h) (omega arith) refl s)) e
typed_at kind.DiscreteTriggeredSampler v t h y k s e = word_typed Real _ y (caught_real (real_at v 0) (t ∷ h) (real_in_range kind.DiscreteTriggeredSampler v 0 k) (omega arith) refl s) e
typed_at kind.DiscreteTriggeredMax v t h y k s e = word_typed Real _ y (greatest_real (picked (t ∷ h)) (picked_reals (t ∷ h) (omega arith) refl s)) e
typed_at kind.DiscreteTriggeredMovingMean v t h y k s e = any_typed Real (real_mean (take (unsigned_abs (integer_at v 0)) (picked (t ∷ h)))) y (mean_real (take (unsigned_abs (integer_at v 0)) (picked (t ∷ h)))) e
typed_at kind.RoutingBooleanScalarReplicator v t h y k s e = copies_typed Boolean (nin_or_nout v) (word t.ins 0) y ((values t h s).each 0 (omega arith)) e
typed_at kind.RoutingIntegerScalarReplicator v t h y k s e = copies_typed Integer (nin_or_nout v) (word t.ins 0) y ((values t h s).each 0 (omega arith)) e
typed_at kind.RoutingRealScalarReplicator v t h y k s e = copies_typed Real (nin_or_nout v) (word t.ins 0) y ((values t h s).each 0 (omega arith)) e

some_of : {X : Type 0} (o : Option X) (x : X) → o ≡ Some x → IsSome o
some_of o x e = rw e refl

pub outputs_typed : (k : Kind) (v : List Array) (h : History) (now : ℤ) (x y : List ℤ) → Keeps k v → IsHistory (inputs k v) (meaning k v) h → IsTime now → IsLater now h → AreValues (inputs k v) x → meaning k v h now x ≡ Some y → AreValues (outputs k v) y
outputs_typed k v h now x y f s l a i e =
    let c : IsHistory (inputs k v) (meaning k v) (tick now x ∷ h) = record { ticks = (l, a, i, some_of (meaning k v h now x) y e, s.ticks) } in
    typed_at k v (tick now x) h y f c e
