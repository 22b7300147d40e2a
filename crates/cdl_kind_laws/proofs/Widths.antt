-- How many words stand for a history, and the kinds without state words.
use Rattle.std.proofs.Common.{ℕ, zero, suc, ◌+◌, ◌≡◌, refl, ap, ◌∙◌, ℤ, List, [], ◌∷◌, length, arith}
use Rattle.std.specs.Prelude.{Option, Some, None, unsigned_abs}
use Rattle.cdl_kinds.specs.declared.kind.Kind.{Kind}
use Rattle.cdl_kinds.specs.declared.kind.Kind.TheVariants as kind
use Rattle.cdl_values.specs.declared.value.Array.{Array}
use Rattle.cdl_values.specs.History.{History}
use Rattle.cdl_kinds.specs.Meaning.Discrete.{picked}
use Rattle.cdl_kinds.specs.Meaning.Timers.{Held, held}
use Rattle.cdl_kinds.specs.Meanings.{meaning}
use Rattle.cdl_kinds.specs.StateWords.{state_words}
use Rattle.cdl_kinds.specs.States.{Stands, hold_words, mean_words, padded, state_of}
use Rattle.cdl_values.specs.Values.{integer_at, real_at}

pub length-padded : (n : ℕ) (us : List ℤ) → length (padded n us) ≡ n
length-padded zero us = refl
length-padded (suc n) [] = ap suc (length-padded n [])
length-padded (suc n) (u ∷ us) = ap suc (length-padded n us)

pub length-mean_words : (n : ℕ) (h : History) → length (mean_words n h) ≡ n + 3
length-mean_words n h = let e : length (padded n (picked h)) ≡ n = length-padded n (picked h) in omega arith

length-hold_words : (y : Option Held) → length (hold_words y) ≡ 2
length-hold_words None = refl
length-hold_words (Some y) = refl

pub state_length : (k : Kind) (v : List Array) (h : History) → length (state_of k v h) ≡ state_words k v
state_length kind.LogicalAnd v h = refl
state_length kind.LogicalOr v h = refl
state_length kind.LogicalNand v h = refl
state_length kind.LogicalNor v h = refl
state_length kind.LogicalXor v h = refl
state_length kind.LogicalNot v h = refl
state_length kind.LogicalMultiAnd v h = refl
state_length kind.LogicalMultiOr v h = refl
state_length kind.LogicalEdge v h = refl
state_length kind.LogicalFallingEdge v h = refl
state_length kind.LogicalChange v h = refl
state_length kind.LogicalLatch v h = refl
state_length kind.LogicalToggle v h = refl
state_length kind.LogicalPre v h = refl
state_length kind.LogicalSwitch v h = refl
state_length kind.IntegersSwitch v h = refl
state_length kind.RealsSwitch v h = refl
state_length kind.LogicalTimer v h = refl
state_length kind.LogicalTimerAccumulating v h = refl
state_length kind.LogicalTrueDelay v h = refl
state_length kind.LogicalTrueFalseHold v h = length-hold_words (held (real_at v 0) (real_at v 1) h)
state_length kind.LogicalSourcesConstant v h = refl
state_length kind.IntegersSourcesConstant v h = refl
state_length kind.RealsSourcesConstant v h = refl
state_length kind.LogicalSourcesPulse v h = refl
state_length kind.IntegersAbs v h = refl
state_length kind.RealsAbs v h = refl
state_length kind.IntegersAdd v h = refl
state_length kind.IntegersSubtract v h = refl
state_length kind.IntegersMultiply v h = refl
state_length kind.IntegersMax v h = refl
state_length kind.IntegersMin v h = refl
state_length kind.IntegersAddParameter v h = refl
state_length kind.IntegersMultiSum v h = refl
state_length kind.IntegersEqual v h = refl
state_length kind.IntegersGreater v h = refl
state_length kind.IntegersGreaterEqual v h = refl
state_length kind.IntegersLess v h = refl
state_length kind.IntegersLessEqual v h = refl
state_length kind.IntegersGreaterThreshold v h = refl
state_length kind.IntegersGreaterEqualThreshold v h = refl
state_length kind.IntegersLessThreshold v h = refl
state_length kind.IntegersLessEqualThreshold v h = refl
state_length kind.IntegersChange v h = refl
state_length kind.IntegersOnCounter v h = refl
state_length kind.RealsAdd v h = refl
state_length kind.RealsSubtract v h = refl
state_length kind.RealsMultiply v h = refl
state_length kind.RealsDivide v h = refl
state_length kind.RealsMax v h = refl
state_length kind.RealsMin v h = refl
state_length kind.RealsAddParameter v h = refl
state_length kind.RealsMultiplyByParameter v h = refl
state_length kind.RealsAverage v h = refl
state_length kind.RealsModulo v h = refl
state_length kind.RealsMultiSum v h = refl
state_length kind.RealsMultiMax v h = refl
state_length kind.RealsMultiMin v h = refl
state_length kind.RealsGreater v h = refl
state_length kind.RealsLess v h = refl
state_length kind.RealsGreaterThreshold v h = refl
state_length kind.RealsLessThreshold v h = refl
state_length kind.RealsHysteresis v h = refl
state_length kind.RealsLimiter v h = refl
state_length kind.RealsLine v h = refl
state_length kind.ConversionsBooleanToInteger v h = refl
state_length kind.ConversionsBooleanToReal v h = refl
state_length kind.ConversionsIntegerToReal v h = refl
state_length kind.ConversionsRealToInteger v h = refl
state_length kind.DiscreteSampler v h = refl
state_length kind.DiscreteZeroOrderHold v h = refl
state_length kind.DiscreteUnitDelay v h = refl
state_length kind.DiscreteTriggeredSampler v h = refl
state_length kind.DiscreteTriggeredMax v h = refl
state_length kind.DiscreteTriggeredMovingMean v h = length-mean_words (unsigned_abs (integer_at v 0)) h
state_length kind.RoutingBooleanScalarReplicator v h = refl
state_length kind.RoutingIntegerScalarReplicator v h = refl
state_length kind.RoutingRealScalarReplicator v h = refl

no_words : (a b : List ℤ) → length a ≡ 0 → length b ≡ 0 → a ≡ b
no_words [] [] e f = refl
no_words [] (b ∷ rest) e f = absurd (omega arith)
no_words (a ∷ rest) b e f = absurd (omega arith)

-- the state without words stands for each history
pub stands_always : (k : Kind) (v : List Array) (state : List ℤ) (h : History) → state_words k v ≡ 0 → length state ≡ 0 → Stands k v state h
stands_always k v state h w e = no_words state (state_of k v h) e (state_length k v h ∙ w)

-- what a block without state words gives doesn't rest on the ticks before
pub needs_no_history : (k : Kind) (v : List Array) (h : History) (now : ℤ) (x : List ℤ) → state_words k v ≡ 0 → meaning k v h now x ≡ meaning k v [] now x
needs_no_history kind.LogicalAnd v h now x w = refl
needs_no_history kind.LogicalOr v h now x w = refl
needs_no_history kind.LogicalNand v h now x w = refl
needs_no_history kind.LogicalNor v h now x w = refl
needs_no_history kind.LogicalXor v h now x w = refl
needs_no_history kind.LogicalNot v h now x w = refl
needs_no_history kind.LogicalMultiAnd v h now x w = refl
needs_no_history kind.LogicalMultiOr v h now x w = refl
needs_no_history kind.LogicalEdge v h now x w = absurd (omega arith)
needs_no_history kind.LogicalFallingEdge v h now x w = absurd (omega arith)
needs_no_history kind.LogicalChange v h now x w = absurd (omega arith)
needs_no_history kind.LogicalLatch v h now x w = absurd (omega arith)
needs_no_history kind.LogicalToggle v h now x w = absurd (omega arith)
needs_no_history kind.LogicalPre v h now x w = absurd (omega arith)
needs_no_history kind.LogicalSwitch v h now x w = refl
needs_no_history kind.IntegersSwitch v h now x w = refl
needs_no_history kind.RealsSwitch v h now x w = refl
needs_no_history kind.LogicalTimer v h now x w = absurd (omega arith)
needs_no_history kind.LogicalTimerAccumulating v h now x w = absurd (omega arith)
needs_no_history kind.LogicalTrueDelay v h now x w = absurd (omega arith)
needs_no_history kind.LogicalTrueFalseHold v h now x w = absurd (omega arith)
needs_no_history kind.LogicalSourcesConstant v h now x w = refl
needs_no_history kind.IntegersSourcesConstant v h now x w = refl
needs_no_history kind.RealsSourcesConstant v h now x w = refl
needs_no_history kind.LogicalSourcesPulse v h now x w = refl
needs_no_history kind.IntegersAbs v h now x w = refl
needs_no_history kind.RealsAbs v h now x w = refl
needs_no_history kind.IntegersAdd v h now x w = refl
needs_no_history kind.IntegersSubtract v h now x w = refl
needs_no_history kind.IntegersMultiply v h now x w = refl
needs_no_history kind.IntegersMax v h now x w = refl
needs_no_history kind.IntegersMin v h now x w = refl
needs_no_history kind.IntegersAddParameter v h now x w = refl
needs_no_history kind.IntegersMultiSum v h now x w = refl
needs_no_history kind.IntegersEqual v h now x w = refl
needs_no_history kind.IntegersGreater v h now x w = refl
needs_no_history kind.IntegersGreaterEqual v h now x w = refl
needs_no_history kind.IntegersLess v h now x w = refl
needs_no_history kind.IntegersLessEqual v h now x w = refl
needs_no_history kind.IntegersGreaterThreshold v h now x w = refl
needs_no_history kind.IntegersGreaterEqualThreshold v h now x w = refl
needs_no_history kind.IntegersLessThreshold v h now x w = refl
needs_no_history kind.IntegersLessEqualThreshold v h now x w = refl
needs_no_history kind.IntegersChange v h now x w = absurd (omega arith)
needs_no_history kind.IntegersOnCounter v h now x w = absurd (omega arith)
needs_no_history kind.RealsAdd v h now x w = refl
needs_no_history kind.RealsSubtract v h now x w = refl
needs_no_history kind.RealsMultiply v h now x w = refl
needs_no_history kind.RealsDivide v h now x w = refl
needs_no_history kind.RealsMax v h now x w = refl
needs_no_history kind.RealsMin v h now x w = refl
needs_no_history kind.RealsAddParameter v h now x w = refl
needs_no_history kind.RealsMultiplyByParameter v h now x w = refl
needs_no_history kind.RealsAverage v h now x w = refl
needs_no_history kind.RealsModulo v h now x w = refl
needs_no_history kind.RealsMultiSum v h now x w = refl
needs_no_history kind.RealsMultiMax v h now x w = refl
needs_no_history kind.RealsMultiMin v h now x w = refl
needs_no_history kind.RealsGreater v h now x w = absurd (omega arith)
needs_no_history kind.RealsLess v h now x w = absurd (omega arith)
needs_no_history kind.RealsGreaterThreshold v h now x w = absurd (omega arith)
needs_no_history kind.RealsLessThreshold v h now x w = absurd (omega arith)
needs_no_history kind.RealsHysteresis v h now x w = absurd (omega arith)
needs_no_history kind.RealsLimiter v h now x w = refl
needs_no_history kind.RealsLine v h now x w = refl
needs_no_history kind.ConversionsBooleanToInteger v h now x w = refl
needs_no_history kind.ConversionsBooleanToReal v h now x w = refl
needs_no_history kind.ConversionsIntegerToReal v h now x w = refl
needs_no_history kind.ConversionsRealToInteger v h now x w = refl
needs_no_history kind.DiscreteSampler v h now x w = absurd (omega arith)
needs_no_history kind.DiscreteZeroOrderHold v h now x w = absurd (omega arith)
needs_no_history kind.DiscreteUnitDelay v h now x w = absurd (omega arith)
needs_no_history kind.DiscreteTriggeredSampler v h now x w = absurd (omega arith)
needs_no_history kind.DiscreteTriggeredMax v h now x w = absurd (omega arith)
needs_no_history kind.DiscreteTriggeredMovingMean v h now x w = absurd (omega arith)
needs_no_history kind.RoutingBooleanScalarReplicator v h now x w = refl
needs_no_history kind.RoutingIntegerScalarReplicator v h now x w = refl
needs_no_history kind.RoutingRealScalarReplicator v h now x w = refl
