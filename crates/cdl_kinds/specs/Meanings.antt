-- The meaning of each kind.
use Rattle.std.specs.Prelude.{ℕ, zero, suc, ℤ, ◌≡◌, true, List, [], None, unsigned_abs}
use Rattle.cdl_decimal.specs.Counts.{real_add, real_sub, real_mul, real_div, real_modulo}
use Rattle.cdl_kinds.specs.declared.kind.Kind.{Kind}
use Rattle.cdl_kinds.specs.declared.kind.Kind.TheVariants as kind
use Rattle.cdl_values.specs.declared.value.Array.{Array}
use Rattle.cdl_values.specs.History.{Meaning, word, bit, is_on}
use Rattle.cdl_kinds.specs.Meaning.Gates.{both, either, not_both, neither, just_one, gate, negation, all_on, any_on, switch}
use Rattle.cdl_kinds.specs.Meaning.Edges.{is_edge, is_falling, is_change, edge, pre, latch, toggle}
use Rattle.cdl_kinds.specs.Meaning.Integers.{magnitude, sum_of, difference_of, product_of, integer_of_one, integer_of_two, integer_add_parameter, integer_multi_sum, is_equal, is_greater, is_greater_equal, is_less, is_less_equal, compare, compare_threshold, integer_change, on_counter}
use Rattle.cdl_values.specs.Extremes.{greater_of, lesser_of, greatest, least}
use Rattle.cdl_kinds.specs.Meaning.Reals.{absolute, greater, lesser, real_of_one, real_of_two, real_add_parameter, real_multiply_by_parameter, average, real_multi_sum, extreme, remembering, above, below, above_threshold, below_threshold, between, limiter, line_through}
use Rattle.cdl_kinds.specs.Meaning.Conversions.{constant, choice, integer_to_real, to_nearest_integer, replicator}
use Rattle.cdl_kinds.specs.Meaning.Timers.{timer, timer_accumulating, true_delay, true_false_hold, pulse}
use Rattle.cdl_kinds.specs.Meaning.Discrete.{sampler, unit_delay, triggered_sampler, triggered_max, triggered_moving_mean}
use Rattle.cdl_kinds.specs.StateWords.{state_words}
use Rattle.cdl_values.specs.Values.{boolean_at, integer_at, integers_at, real_at, reals_at}

-- what a block of the kind with these parameters gives at a time, after these ticks and with these inputs, or none
abbrev pub meaning : Kind → List Array → Meaning
meaning kind.LogicalAnd v = gate both
meaning kind.LogicalOr v = gate either
meaning kind.LogicalNand v = gate not_both
meaning kind.LogicalNor v = gate neither
meaning kind.LogicalXor v = gate just_one
meaning kind.LogicalNot v = negation
meaning kind.LogicalMultiAnd v = all_on
meaning kind.LogicalMultiOr v = any_on
meaning kind.LogicalEdge v = edge is_edge (boolean_at v 0)
meaning kind.LogicalFallingEdge v = edge is_falling (boolean_at v 0)
meaning kind.LogicalChange v = edge is_change (boolean_at v 0)
meaning kind.LogicalLatch v = latch
meaning kind.LogicalToggle v = toggle
meaning kind.LogicalPre v = pre (boolean_at v 0)
meaning kind.LogicalSwitch v = switch
meaning kind.IntegersSwitch v = switch
meaning kind.RealsSwitch v = switch
meaning kind.LogicalTimer v = timer (real_at v 0)
meaning kind.LogicalTimerAccumulating v = timer_accumulating (real_at v 0)
meaning kind.LogicalTrueDelay v = true_delay (real_at v 0) (boolean_at v 1)
meaning kind.LogicalTrueFalseHold v = true_false_hold (real_at v 0) (real_at v 1)
meaning kind.LogicalSourcesConstant v = constant (bit (boolean_at v 0))
meaning kind.IntegersSourcesConstant v = constant (integer_at v 0)
meaning kind.RealsSourcesConstant v = constant (real_at v 0)
meaning kind.LogicalSourcesPulse v = pulse (real_at v 0) (real_at v 1) (real_at v 2)
meaning kind.IntegersAbs v = integer_of_one magnitude
meaning kind.RealsAbs v = real_of_one absolute
meaning kind.IntegersAdd v = integer_of_two sum_of
meaning kind.IntegersSubtract v = integer_of_two difference_of
meaning kind.IntegersMultiply v = integer_of_two product_of
meaning kind.IntegersMax v = integer_of_two greater_of
meaning kind.IntegersMin v = integer_of_two lesser_of
meaning kind.IntegersAddParameter v = integer_add_parameter (integer_at v 0)
meaning kind.IntegersMultiSum v = integer_multi_sum (integers_at v 1)
meaning kind.IntegersEqual v = compare is_equal
meaning kind.IntegersGreater v = compare is_greater
meaning kind.IntegersGreaterEqual v = compare is_greater_equal
meaning kind.IntegersLess v = compare is_less
meaning kind.IntegersLessEqual v = compare is_less_equal
meaning kind.IntegersGreaterThreshold v = compare_threshold is_greater (integer_at v 0)
meaning kind.IntegersGreaterEqualThreshold v = compare_threshold is_greater_equal (integer_at v 0)
meaning kind.IntegersLessThreshold v = compare_threshold is_less (integer_at v 0)
meaning kind.IntegersLessEqualThreshold v = compare_threshold is_less_equal (integer_at v 0)
meaning kind.IntegersChange v = integer_change (integer_at v 0)
meaning kind.IntegersOnCounter v = on_counter (integer_at v 0)
meaning kind.RealsAdd v = real_of_two real_add
meaning kind.RealsSubtract v = real_of_two real_sub
meaning kind.RealsMultiply v = real_of_two real_mul
meaning kind.RealsDivide v = real_of_two real_div
meaning kind.RealsMax v = real_of_two greater
meaning kind.RealsMin v = real_of_two lesser
meaning kind.RealsAddParameter v = real_add_parameter (real_at v 0)
meaning kind.RealsMultiplyByParameter v = real_multiply_by_parameter (real_at v 0)
meaning kind.RealsAverage v = average
meaning kind.RealsModulo v = real_of_two real_modulo
meaning kind.RealsMultiSum v = real_multi_sum (reals_at v 1)
meaning kind.RealsMultiMax v = extreme greatest
meaning kind.RealsMultiMin v = extreme least
meaning kind.RealsGreater v = remembering (above (real_at v 0)) (boolean_at v 1)
meaning kind.RealsLess v = remembering (below (real_at v 0)) (boolean_at v 1)
meaning kind.RealsGreaterThreshold v = remembering (above_threshold (real_at v 0) (real_at v 1)) (boolean_at v 2)
meaning kind.RealsLessThreshold v = remembering (below_threshold (real_at v 0) (real_at v 1)) (boolean_at v 2)
meaning kind.RealsHysteresis v = remembering (between (real_at v 0) (real_at v 1)) (boolean_at v 2)
meaning kind.RealsLimiter v = limiter (real_at v 0) (real_at v 1)
meaning kind.RealsLine v = line_through (boolean_at v 0) (boolean_at v 1)
meaning kind.ConversionsBooleanToInteger v = choice (integer_at v 0) (integer_at v 1)
meaning kind.ConversionsBooleanToReal v = choice (real_at v 0) (real_at v 1)
meaning kind.ConversionsIntegerToReal v = integer_to_real
meaning kind.ConversionsRealToInteger v = to_nearest_integer
meaning kind.DiscreteSampler v = sampler (real_at v 0)
meaning kind.DiscreteZeroOrderHold v = sampler (real_at v 0)
meaning kind.DiscreteUnitDelay v = unit_delay (real_at v 0) (real_at v 1)
meaning kind.DiscreteTriggeredSampler v = triggered_sampler (real_at v 0)
meaning kind.DiscreteTriggeredMax v = triggered_max
meaning kind.DiscreteTriggeredMovingMean v = triggered_moving_mean (unsigned_abs (integer_at v 0))
meaning kind.RoutingBooleanScalarReplicator v = replicator (unsigned_abs (integer_at v 0))
meaning kind.RoutingIntegerScalarReplicator v = replicator (unsigned_abs (integer_at v 0))
meaning kind.RoutingRealScalarReplicator v = replicator (unsigned_abs (integer_at v 0))

-- this, at a kind without state words; such a kind has the number 0 itself in its row
abbrev pub WithoutState : ℕ → Type 0 → Type 0
WithoutState zero P = P
WithoutState (suc n) P = ⊥

-- where a block may have no value whatever its state: a kind without state words where its meaning has none, and a counter where its trigger is true
abbrev pub MayLack : Kind → List Array → ℤ → List ℤ → Type 0
MayLack kind.IntegersOnCounter v now x = is_on (word x 0) ≡ true
MayLack kind.DiscreteTriggeredMovingMean v now x = ⊥
MayLack k v now x = WithoutState (state_words k v) (meaning k v [] now x ≡ None)
