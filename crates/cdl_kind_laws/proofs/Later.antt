-- A state that is sound for a time is sound for each later one.
use Rattle.std.proofs.Common.{inl, inr, ℤ, List, arith}
use Rattle.std.specs.Prelude.{pos, ◌*ℤ◌, ◌≤ℤ◌}
use Rattle.std.proofs.lemmas.Int.{ints}
use Rattle.cdl_kinds.specs.declared.kind.Kind.{Kind}
use Rattle.cdl_kinds.specs.declared.kind.Kind.TheVariants as kind
use Rattle.cdl_values.specs.declared.value.Array.{Array}
use Rattle.cdl_kinds.specs.States.{IsAccumulatingState, IsDelayState, IsHoldState, IsIntervalUpTo, IsSamplerState, IsSound, IsTimerState, IsTimeUpTo, IsUnitDelayState}
use Rattle.cdl_values.specs.Values.{real_at}

time_later : (last next w : ℤ) → last ≤ℤ next → IsTimeUpTo last w → IsTimeUpTo next w
time_later last next w l s = record { low = s.low; high = omega (arith, ints, s.high) }

thousand : (last next z : ℤ) → last ≤ℤ next → z ≤ℤ (last *ℤ pos 1000) → z ≤ℤ (next *ℤ pos 1000)
thousand last next z l s = omega (arith, ints)

interval_later : (period last next w : ℤ) → last ≤ℤ next → IsIntervalUpTo period last w → IsIntervalUpTo period next w
interval_later period last next w l (inl e) = inl e
interval_later period last next w l (inr s) = inr (s.0, thousand last next (w *ℤ period) l s.1)

timer_later : (state : List ℤ) (last next : ℤ) → last ≤ℤ next → IsTimerState state last → IsTimerState state next
timer_later state last next l s = record { size = s.size; begin = time_later last next _ l s.begin; spare = s.spare }

accumulating_later : (state : List ℤ) (last next : ℤ) → last ≤ℤ next → IsAccumulatingState state last → IsAccumulatingState state next
accumulating_later state last next l s = record { size = s.size; time = time_later last next _ l s.time; input = s.input; reset = s.reset; none = s.none; some = s.some }

delay_later : (state : List ℤ) (last next : ℤ) → last ≤ℤ next → IsDelayState state last → IsDelayState state next
delay_later state last next l s = record { size = s.size; begin = time_later last next _ l s.begin; always = s.always }

hold_later : (state : List ℤ) (last next : ℤ) → last ≤ℤ next → IsHoldState state last → IsHoldState state next
hold_later state last next l s = record { size = s.size; output = s.output; changed = time_later last next _ l s.changed }

sampler_later : (period : ℤ) (state : List ℤ) (last next : ℤ) → last ≤ℤ next → IsSamplerState period state last → IsSamplerState period state next
sampler_later period state last next l s = record { size = s.size; interval = interval_later period last next _ l s.interval; sample = s.sample }

unit_delay_later : (period : ℤ) (state : List ℤ) (last next : ℤ) → last ≤ℤ next → IsUnitDelayState period state last → IsUnitDelayState period state next
unit_delay_later period state last next l s = record { size = s.size; interval = interval_later period last next _ l s.interval; older = s.older; newer = s.newer }

pub sound_later : (k : Kind) (v : List Array) (state : List ℤ) (last next : ℤ) → last ≤ℤ next → IsSound k v state last → IsSound k v state next
sound_later kind.LogicalAnd v state last next l s = s
sound_later kind.LogicalOr v state last next l s = s
sound_later kind.LogicalNand v state last next l s = s
sound_later kind.LogicalNor v state last next l s = s
sound_later kind.LogicalXor v state last next l s = s
sound_later kind.LogicalNot v state last next l s = s
sound_later kind.LogicalMultiAnd v state last next l s = s
sound_later kind.LogicalMultiOr v state last next l s = s
sound_later kind.LogicalEdge v state last next l s = s
sound_later kind.LogicalFallingEdge v state last next l s = s
sound_later kind.LogicalChange v state last next l s = s
sound_later kind.LogicalLatch v state last next l s = s
sound_later kind.LogicalToggle v state last next l s = s
sound_later kind.LogicalPre v state last next l s = s
sound_later kind.LogicalSwitch v state last next l s = s
sound_later kind.IntegersSwitch v state last next l s = s
sound_later kind.RealsSwitch v state last next l s = s
sound_later kind.LogicalTimer v state last next l s = timer_later state last next l s
sound_later kind.LogicalTimerAccumulating v state last next l s = accumulating_later state last next l s
sound_later kind.LogicalTrueDelay v state last next l s = delay_later state last next l s
sound_later kind.LogicalTrueFalseHold v state last next l s = hold_later state last next l s
sound_later kind.LogicalSourcesConstant v state last next l s = s
sound_later kind.IntegersSourcesConstant v state last next l s = s
sound_later kind.RealsSourcesConstant v state last next l s = s
sound_later kind.LogicalSourcesPulse v state last next l s = s
sound_later kind.IntegersAbs v state last next l s = s
sound_later kind.RealsAbs v state last next l s = s
sound_later kind.IntegersAdd v state last next l s = s
sound_later kind.IntegersSubtract v state last next l s = s
sound_later kind.IntegersMultiply v state last next l s = s
sound_later kind.IntegersMax v state last next l s = s
sound_later kind.IntegersMin v state last next l s = s
sound_later kind.IntegersAddParameter v state last next l s = s
sound_later kind.IntegersMultiSum v state last next l s = s
sound_later kind.IntegersEqual v state last next l s = s
sound_later kind.IntegersGreater v state last next l s = s
sound_later kind.IntegersGreaterEqual v state last next l s = s
sound_later kind.IntegersLess v state last next l s = s
sound_later kind.IntegersLessEqual v state last next l s = s
sound_later kind.IntegersGreaterThreshold v state last next l s = s
sound_later kind.IntegersGreaterEqualThreshold v state last next l s = s
sound_later kind.IntegersLessThreshold v state last next l s = s
sound_later kind.IntegersLessEqualThreshold v state last next l s = s
sound_later kind.IntegersChange v state last next l s = s
sound_later kind.IntegersOnCounter v state last next l s = s
sound_later kind.RealsAdd v state last next l s = s
sound_later kind.RealsSubtract v state last next l s = s
sound_later kind.RealsMultiply v state last next l s = s
sound_later kind.RealsDivide v state last next l s = s
sound_later kind.RealsMax v state last next l s = s
sound_later kind.RealsMin v state last next l s = s
sound_later kind.RealsAddParameter v state last next l s = s
sound_later kind.RealsMultiplyByParameter v state last next l s = s
sound_later kind.RealsAverage v state last next l s = s
sound_later kind.RealsModulo v state last next l s = s
sound_later kind.RealsMultiSum v state last next l s = s
sound_later kind.RealsMultiMax v state last next l s = s
sound_later kind.RealsMultiMin v state last next l s = s
sound_later kind.RealsGreater v state last next l s = s
sound_later kind.RealsLess v state last next l s = s
sound_later kind.RealsGreaterThreshold v state last next l s = s
sound_later kind.RealsLessThreshold v state last next l s = s
sound_later kind.RealsHysteresis v state last next l s = s
sound_later kind.RealsLimiter v state last next l s = s
sound_later kind.RealsLine v state last next l s = s
sound_later kind.ConversionsBooleanToInteger v state last next l s = s
sound_later kind.ConversionsBooleanToReal v state last next l s = s
sound_later kind.ConversionsIntegerToReal v state last next l s = s
sound_later kind.ConversionsRealToInteger v state last next l s = s
sound_later kind.DiscreteSampler v state last next l s = sampler_later (real_at v 0) state last next l s
sound_later kind.DiscreteZeroOrderHold v state last next l s = sampler_later (real_at v 0) state last next l s
sound_later kind.DiscreteUnitDelay v state last next l s = unit_delay_later (real_at v 0) state last next l s
sound_later kind.DiscreteTriggeredSampler v state last next l s = s
sound_later kind.DiscreteTriggeredMax v state last next l s = s
sound_later kind.DiscreteTriggeredMovingMean v state last next l s = s
sound_later kind.RoutingBooleanScalarReplicator v state last next l s = s
sound_later kind.RoutingIntegerScalarReplicator v state last next l s = s
sound_later kind.RoutingRealScalarReplicator v state last next l s = s
