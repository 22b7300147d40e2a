-- The names of the kinds.
use Rattle.std.specs.Prelude.{ℕ, cond, List, [], ◌∷◌, Option, Some, None}
use Rattle.std.specs.Str.{bytes_eq}
use Rattle.cdl_kinds.specs.declared.kind.Kind.{Kind}
use Rattle.cdl_kinds.specs.declared.kind.Kind.TheVariants as kind
use Rattle.cdl_kinds.specs.Table.{row}

-- the name of a kind
abbrev pub kind_name : Kind → List ℕ
kind_name k = (row k).name

-- the kinds, in the table's order
unfoldable pub kinds : List Kind
kinds =
    kind.LogicalAnd ∷ kind.LogicalOr ∷ kind.LogicalNand ∷ kind.LogicalNor ∷ kind.LogicalXor ∷ kind.LogicalNot ∷ kind.LogicalMultiAnd ∷
    kind.LogicalMultiOr ∷ kind.LogicalEdge ∷ kind.LogicalFallingEdge ∷ kind.LogicalChange ∷ kind.LogicalLatch ∷ kind.LogicalToggle ∷
    kind.LogicalPre ∷ kind.LogicalSwitch ∷ kind.IntegersSwitch ∷ kind.RealsSwitch ∷ kind.LogicalTimer ∷ kind.LogicalTimerAccumulating ∷
    kind.LogicalTrueDelay ∷ kind.LogicalTrueFalseHold ∷ kind.LogicalSourcesConstant ∷ kind.IntegersSourcesConstant ∷
    kind.RealsSourcesConstant ∷ kind.LogicalSourcesPulse ∷ kind.IntegersAbs ∷ kind.RealsAbs ∷ kind.IntegersAdd ∷ kind.IntegersSubtract ∷
    kind.IntegersMultiply ∷ kind.IntegersMax ∷ kind.IntegersMin ∷ kind.IntegersAddParameter ∷ kind.IntegersMultiSum ∷
    kind.IntegersEqual ∷ kind.IntegersGreater ∷ kind.IntegersGreaterEqual ∷ kind.IntegersLess ∷ kind.IntegersLessEqual ∷
    kind.IntegersGreaterThreshold ∷ kind.IntegersGreaterEqualThreshold ∷ kind.IntegersLessThreshold ∷ kind.IntegersLessEqualThreshold ∷
    kind.IntegersChange ∷ kind.IntegersOnCounter ∷ kind.RealsAdd ∷ kind.RealsSubtract ∷ kind.RealsMultiply ∷ kind.RealsDivide ∷
    kind.RealsMax ∷ kind.RealsMin ∷ kind.RealsAddParameter ∷ kind.RealsMultiplyByParameter ∷ kind.RealsAverage ∷ kind.RealsModulo ∷
    kind.RealsMultiSum ∷ kind.RealsMultiMax ∷ kind.RealsMultiMin ∷ kind.RealsGreater ∷ kind.RealsLess ∷ kind.RealsGreaterThreshold ∷
    kind.RealsLessThreshold ∷ kind.RealsHysteresis ∷ kind.RealsLimiter ∷ kind.RealsLine ∷ kind.ConversionsBooleanToInteger ∷
    kind.ConversionsBooleanToReal ∷ kind.ConversionsIntegerToReal ∷ kind.ConversionsRealToInteger ∷ kind.DiscreteSampler ∷
    kind.DiscreteZeroOrderHold ∷ kind.DiscreteUnitDelay ∷ kind.DiscreteTriggeredSampler ∷ kind.DiscreteTriggeredMax ∷
    kind.DiscreteTriggeredMovingMean ∷ kind.RoutingBooleanScalarReplicator ∷ kind.RoutingIntegerScalarReplicator ∷
    kind.RoutingRealScalarReplicator ∷ []

-- the first of these kinds that has the name
abbrev pub found : List ℕ → List Kind → Option Kind
found name [] = None
found name (k ∷ ks) = cond (bytes_eq (kind_name k) name) (Some k) (found name ks)
