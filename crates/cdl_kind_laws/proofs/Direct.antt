-- Inputs that aren't direct play no part in what a block gives.
use Rattle.std.proofs.Common.{◌≡◌, refl, ap, Bool, true, false, cond, ℤ, List, [], ◌∷◌}
use Rattle.std.specs.Prelude.{Some}
use Rattle.cdl_kinds.specs.declared.kind.Kind.{Kind}
use Rattle.cdl_kinds.specs.declared.kind.Kind.TheVariants as kind
use Rattle.cdl_values.specs.declared.value.Array.{Array}
use Rattle.cdl_values.specs.History.{History, SameDirect, word}
use Rattle.cdl_values.proofs.Laws.{same_inputs}
use Rattle.cdl_kinds.specs.Meaning.Discrete.{sampled, samples, second_or}
use Rattle.cdl_kinds.specs.Meanings.{meaning}
use Rattle.cdl_kinds.specs.Ports.{inputs}
use Rattle.cdl_kinds.specs.Table.{row}
use Rattle.cdl_values.specs.Values.{real_at}

by_direct : (k : Kind) → (row k).direct ≡ true → (v : List Array) (h : History) (now : ℤ) (x y : List ℤ) → SameDirect (inputs k v) x y → meaning k v h now x ≡ meaning k v h now y
by_direct k d v h now x y s = ap (λ (z : List ℤ). meaning k v h now z) (same_inputs (inputs k v) x y (λ _. d) s)

second_sample : (start : ℤ) (b : Bool) (w z : ℤ) (us : List ℤ) → Some (second_or start (cond b (w ∷ us) us) ∷ []) ≡ Some (second_or start (cond b (z ∷ us) us) ∷ [])
second_sample start true w z us = refl
second_sample start false w z us = refl

pub direct_only : (k : Kind) (v : List Array) (h : History) (now : ℤ) (x y : List ℤ) → SameDirect (inputs k v) x y → meaning k v h now x ≡ meaning k v h now y
direct_only kind.LogicalAnd v h now x y s = by_direct kind.LogicalAnd refl v h now x y s
direct_only kind.LogicalOr v h now x y s = by_direct kind.LogicalOr refl v h now x y s
direct_only kind.LogicalNand v h now x y s = by_direct kind.LogicalNand refl v h now x y s
direct_only kind.LogicalNor v h now x y s = by_direct kind.LogicalNor refl v h now x y s
direct_only kind.LogicalXor v h now x y s = by_direct kind.LogicalXor refl v h now x y s
direct_only kind.LogicalNot v h now x y s = by_direct kind.LogicalNot refl v h now x y s
direct_only kind.LogicalMultiAnd v h now x y s = by_direct kind.LogicalMultiAnd refl v h now x y s
direct_only kind.LogicalMultiOr v h now x y s = by_direct kind.LogicalMultiOr refl v h now x y s
direct_only kind.LogicalEdge v h now x y s = by_direct kind.LogicalEdge refl v h now x y s
direct_only kind.LogicalFallingEdge v h now x y s = by_direct kind.LogicalFallingEdge refl v h now x y s
direct_only kind.LogicalChange v h now x y s = by_direct kind.LogicalChange refl v h now x y s
direct_only kind.LogicalLatch v h now x y s = by_direct kind.LogicalLatch refl v h now x y s
direct_only kind.LogicalToggle v h now x y s = by_direct kind.LogicalToggle refl v h now x y s
direct_only kind.LogicalPre v h now x y s = refl
direct_only kind.LogicalSwitch v h now x y s = by_direct kind.LogicalSwitch refl v h now x y s
direct_only kind.IntegersSwitch v h now x y s = by_direct kind.IntegersSwitch refl v h now x y s
direct_only kind.RealsSwitch v h now x y s = by_direct kind.RealsSwitch refl v h now x y s
direct_only kind.LogicalTimer v h now x y s = by_direct kind.LogicalTimer refl v h now x y s
direct_only kind.LogicalTimerAccumulating v h now x y s = by_direct kind.LogicalTimerAccumulating refl v h now x y s
direct_only kind.LogicalTrueDelay v h now x y s = by_direct kind.LogicalTrueDelay refl v h now x y s
direct_only kind.LogicalTrueFalseHold v h now x y s = by_direct kind.LogicalTrueFalseHold refl v h now x y s
direct_only kind.LogicalSourcesConstant v h now x y s = by_direct kind.LogicalSourcesConstant refl v h now x y s
direct_only kind.IntegersSourcesConstant v h now x y s = by_direct kind.IntegersSourcesConstant refl v h now x y s
direct_only kind.RealsSourcesConstant v h now x y s = by_direct kind.RealsSourcesConstant refl v h now x y s
direct_only kind.LogicalSourcesPulse v h now x y s = by_direct kind.LogicalSourcesPulse refl v h now x y s
direct_only kind.IntegersAbs v h now x y s = by_direct kind.IntegersAbs refl v h now x y s
direct_only kind.RealsAbs v h now x y s = by_direct kind.RealsAbs refl v h now x y s
direct_only kind.IntegersAdd v h now x y s = by_direct kind.IntegersAdd refl v h now x y s
direct_only kind.IntegersSubtract v h now x y s = by_direct kind.IntegersSubtract refl v h now x y s
direct_only kind.IntegersMultiply v h now x y s = by_direct kind.IntegersMultiply refl v h now x y s
direct_only kind.IntegersMax v h now x y s = by_direct kind.IntegersMax refl v h now x y s
direct_only kind.IntegersMin v h now x y s = by_direct kind.IntegersMin refl v h now x y s
direct_only kind.IntegersAddParameter v h now x y s = by_direct kind.IntegersAddParameter refl v h now x y s
direct_only kind.IntegersMultiSum v h now x y s = by_direct kind.IntegersMultiSum refl v h now x y s
direct_only kind.IntegersEqual v h now x y s = by_direct kind.IntegersEqual refl v h now x y s
direct_only kind.IntegersGreater v h now x y s = by_direct kind.IntegersGreater refl v h now x y s
direct_only kind.IntegersGreaterEqual v h now x y s = by_direct kind.IntegersGreaterEqual refl v h now x y s
direct_only kind.IntegersLess v h now x y s = by_direct kind.IntegersLess refl v h now x y s
direct_only kind.IntegersLessEqual v h now x y s = by_direct kind.IntegersLessEqual refl v h now x y s
direct_only kind.IntegersGreaterThreshold v h now x y s = by_direct kind.IntegersGreaterThreshold refl v h now x y s
direct_only kind.IntegersGreaterEqualThreshold v h now x y s = by_direct kind.IntegersGreaterEqualThreshold refl v h now x y s
direct_only kind.IntegersLessThreshold v h now x y s = by_direct kind.IntegersLessThreshold refl v h now x y s
direct_only kind.IntegersLessEqualThreshold v h now x y s = by_direct kind.IntegersLessEqualThreshold refl v h now x y s
direct_only kind.IntegersChange v h now x y s = by_direct kind.IntegersChange refl v h now x y s
direct_only kind.IntegersOnCounter v h now x y s = by_direct kind.IntegersOnCounter refl v h now x y s
direct_only kind.RealsAdd v h now x y s = by_direct kind.RealsAdd refl v h now x y s
direct_only kind.RealsSubtract v h now x y s = by_direct kind.RealsSubtract refl v h now x y s
direct_only kind.RealsMultiply v h now x y s = by_direct kind.RealsMultiply refl v h now x y s
direct_only kind.RealsDivide v h now x y s = by_direct kind.RealsDivide refl v h now x y s
direct_only kind.RealsMax v h now x y s = by_direct kind.RealsMax refl v h now x y s
direct_only kind.RealsMin v h now x y s = by_direct kind.RealsMin refl v h now x y s
direct_only kind.RealsAddParameter v h now x y s = by_direct kind.RealsAddParameter refl v h now x y s
direct_only kind.RealsMultiplyByParameter v h now x y s = by_direct kind.RealsMultiplyByParameter refl v h now x y s
direct_only kind.RealsAverage v h now x y s = by_direct kind.RealsAverage refl v h now x y s
direct_only kind.RealsModulo v h now x y s = by_direct kind.RealsModulo refl v h now x y s
direct_only kind.RealsMultiSum v h now x y s = by_direct kind.RealsMultiSum refl v h now x y s
direct_only kind.RealsMultiMax v h now x y s = by_direct kind.RealsMultiMax refl v h now x y s
direct_only kind.RealsMultiMin v h now x y s = by_direct kind.RealsMultiMin refl v h now x y s
direct_only kind.RealsGreater v h now x y s = by_direct kind.RealsGreater refl v h now x y s
direct_only kind.RealsLess v h now x y s = by_direct kind.RealsLess refl v h now x y s
direct_only kind.RealsGreaterThreshold v h now x y s = by_direct kind.RealsGreaterThreshold refl v h now x y s
direct_only kind.RealsLessThreshold v h now x y s = by_direct kind.RealsLessThreshold refl v h now x y s
direct_only kind.RealsHysteresis v h now x y s = by_direct kind.RealsHysteresis refl v h now x y s
direct_only kind.RealsLimiter v h now x y s = by_direct kind.RealsLimiter refl v h now x y s
direct_only kind.RealsLine v h now x y s = by_direct kind.RealsLine refl v h now x y s
direct_only kind.ConversionsBooleanToInteger v h now x y s = by_direct kind.ConversionsBooleanToInteger refl v h now x y s
direct_only kind.ConversionsBooleanToReal v h now x y s = by_direct kind.ConversionsBooleanToReal refl v h now x y s
direct_only kind.ConversionsIntegerToReal v h now x y s = by_direct kind.ConversionsIntegerToReal refl v h now x y s
direct_only kind.ConversionsRealToInteger v h now x y s = by_direct kind.ConversionsRealToInteger refl v h now x y s
direct_only kind.DiscreteSampler v h now x y s = by_direct kind.DiscreteSampler refl v h now x y s
direct_only kind.DiscreteZeroOrderHold v h now x y s = by_direct kind.DiscreteZeroOrderHold refl v h now x y s
direct_only kind.DiscreteUnitDelay v h now x y s = second_sample (real_at v 1) (samples (real_at v 0) h now) (word x 0) (word y 0) (sampled (real_at v 0) h)
direct_only kind.DiscreteTriggeredSampler v h now x y s = by_direct kind.DiscreteTriggeredSampler refl v h now x y s
direct_only kind.DiscreteTriggeredMax v h now x y s = by_direct kind.DiscreteTriggeredMax refl v h now x y s
direct_only kind.DiscreteTriggeredMovingMean v h now x y s = by_direct kind.DiscreteTriggeredMovingMean refl v h now x y s
direct_only kind.RoutingBooleanScalarReplicator v h now x y s = by_direct kind.RoutingBooleanScalarReplicator refl v h now x y s
direct_only kind.RoutingIntegerScalarReplicator v h now x y s = by_direct kind.RoutingIntegerScalarReplicator refl v h now x y s
direct_only kind.RoutingRealScalarReplicator v h now x y s = by_direct kind.RoutingRealScalarReplicator refl v h now x y s
