-- A kind is found by its name, and by no other.
use Rattle.std.proofs.Common.{ℕ, ◌≡◌, refl, sym, ◌∙◌, subst, Bool, true, false, cond, List, [], ◌∷◌, Option, Some}
use Rattle.std.specs.Str.{bytes_eq}
use Rattle.std.proofs.lemmas.Slice.Eq.{bytes_eq-Decides}
use Rattle.cdl_kinds.specs.declared.kind.Kind.{Kind}
use Rattle.cdl_kinds.specs.declared.kind.Kind.TheVariants as kind
use Rattle.cdl_kinds.specs.Names.{kind_name, kinds, found}

-- each kind is the first of its name
pub first_of_name : (k : Kind) → found (kind_name k) kinds ≡ Some k
unfolding kinds
first_of_name kind.LogicalAnd = refl
first_of_name kind.LogicalOr = refl
first_of_name kind.LogicalNand = refl
first_of_name kind.LogicalNor = refl
first_of_name kind.LogicalXor = refl
first_of_name kind.LogicalNot = refl
first_of_name kind.LogicalMultiAnd = refl
first_of_name kind.LogicalMultiOr = refl
first_of_name kind.LogicalEdge = refl
first_of_name kind.LogicalFallingEdge = refl
first_of_name kind.LogicalChange = refl
first_of_name kind.LogicalLatch = refl
first_of_name kind.LogicalToggle = refl
first_of_name kind.LogicalPre = refl
first_of_name kind.LogicalSwitch = refl
first_of_name kind.IntegersSwitch = refl
first_of_name kind.RealsSwitch = refl
first_of_name kind.LogicalTimer = refl
first_of_name kind.LogicalTimerAccumulating = refl
first_of_name kind.LogicalTrueDelay = refl
first_of_name kind.LogicalTrueFalseHold = refl
first_of_name kind.LogicalSourcesConstant = refl
first_of_name kind.IntegersSourcesConstant = refl
first_of_name kind.RealsSourcesConstant = refl
first_of_name kind.LogicalSourcesPulse = refl
first_of_name kind.IntegersAbs = refl
first_of_name kind.RealsAbs = refl
first_of_name kind.IntegersAdd = refl
first_of_name kind.IntegersSubtract = refl
first_of_name kind.IntegersMultiply = refl
first_of_name kind.IntegersMax = refl
first_of_name kind.IntegersMin = refl
first_of_name kind.IntegersAddParameter = refl
first_of_name kind.IntegersMultiSum = refl
first_of_name kind.IntegersEqual = refl
first_of_name kind.IntegersGreater = refl
first_of_name kind.IntegersGreaterEqual = refl
first_of_name kind.IntegersLess = refl
first_of_name kind.IntegersLessEqual = refl
first_of_name kind.IntegersGreaterThreshold = refl
first_of_name kind.IntegersGreaterEqualThreshold = refl
first_of_name kind.IntegersLessThreshold = refl
first_of_name kind.IntegersLessEqualThreshold = refl
first_of_name kind.IntegersChange = refl
first_of_name kind.IntegersOnCounter = refl
first_of_name kind.RealsAdd = refl
first_of_name kind.RealsSubtract = refl
first_of_name kind.RealsMultiply = refl
first_of_name kind.RealsDivide = refl
first_of_name kind.RealsMax = refl
first_of_name kind.RealsMin = refl
first_of_name kind.RealsAddParameter = refl
first_of_name kind.RealsMultiplyByParameter = refl
first_of_name kind.RealsAverage = refl
first_of_name kind.RealsModulo = refl
first_of_name kind.RealsMultiSum = refl
first_of_name kind.RealsMultiMax = refl
first_of_name kind.RealsMultiMin = refl
first_of_name kind.RealsGreater = refl
first_of_name kind.RealsLess = refl
first_of_name kind.RealsGreaterThreshold = refl
first_of_name kind.RealsLessThreshold = refl
first_of_name kind.RealsHysteresis = refl
first_of_name kind.RealsLimiter = refl
first_of_name kind.RealsLine = refl
first_of_name kind.ConversionsBooleanToInteger = refl
first_of_name kind.ConversionsBooleanToReal = refl
first_of_name kind.ConversionsIntegerToReal = refl
first_of_name kind.ConversionsRealToInteger = refl
first_of_name kind.DiscreteSampler = refl
first_of_name kind.DiscreteZeroOrderHold = refl
first_of_name kind.DiscreteUnitDelay = refl
first_of_name kind.DiscreteTriggeredSampler = refl
first_of_name kind.DiscreteTriggeredMax = refl
first_of_name kind.DiscreteTriggeredMovingMean = refl
first_of_name kind.RoutingBooleanScalarReplicator = refl
first_of_name kind.RoutingIntegerScalarReplicator = refl
first_of_name kind.RoutingRealScalarReplicator = refl

found_here : (n : List ℕ) (j k : Kind) (b : Bool) (r : Option Kind) → bytes_eq (kind_name j) n ≡ b → (r ≡ Some k → kind_name k ≡ n) → cond b (Some j) r ≡ Some k → kind_name k ≡ n
found_here n j k true r e h g = let i : j ≡ k = cc in subst (λ (x : Kind). kind_name x ≡ n) i ((bytes_eq-Decides (kind_name j) n).0 e)
found_here n j k false r e h g = h g

found_named : (n : List ℕ) (k : Kind) (ks : List Kind) → found n ks ≡ Some k → kind_name k ≡ n
found_named n k [] g = cc
found_named n k (j ∷ js) g = found_here n j k (bytes_eq (kind_name j) n) (found n js) refl (found_named n k js) g

pub found_exact : (n : List ℕ) (k : Kind) (r : Option Kind) → r ≡ found n kinds → (r ≡ Some k → kind_name k ≡ n) × (kind_name k ≡ n → r ≡ Some k)
found_exact n k r e = (λ g. found_named n k kinds (sym e ∙ g), λ g. e ∙ subst (λ (m : List ℕ). found m kinds ≡ Some k) g (first_of_name k))
