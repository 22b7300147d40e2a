-- The table of the kinds: a row for each.
use Prim.Native.String.{String}
use Rattle.std.specs.Prelude.{ℕ, pos, Bool, true, false, List, [], ◌∷◌, codes}
use Rattle.cdl_values.specs.declared.value.ValueType.{ValueType}
use Rattle.cdl_values.specs.declared.value.ValueType.TheVariants.{Boolean, Integer, Real}
use Rattle.cdl_kinds.specs.declared.conditions.Condition.{Condition}
use Rattle.cdl_kinds.specs.declared.conditions.Condition.TheVariants.{Count, Window, NotNegative, Positive, Share, Below}
use Rattle.cdl_kinds.specs.declared.kind.Kind.{Kind}
use Rattle.cdl_kinds.specs.declared.kind.Kind.TheVariants as kind
use Rattle.cdl_kinds.specs.declared.parameter.Preset.{Preset}
use Rattle.cdl_kinds.specs.declared.parameter.Preset.TheVariants.{Absent, Same, Ones, Boolean as PBoolean, Integer as PInteger, Real as PReal}
use Rattle.cdl_kinds.specs.declared.state_size.StateSize.{StateSize}
use Rattle.cdl_kinds.specs.declared.state_size.StateSize.TheVariants.{Words, Samples}

-- a parameter: its name, the type of its value, whether there is one value for each input, and its default
pub record ParameterRow : Type 0 where
  pub name : List ℕ
  pub value_type : ValueType
  pub per_nin : Bool
  pub preset : Preset

-- ports of one name: a scalar one, or one for each of nin or nout
pub record Group : Type 0 where
  pub name : List ℕ
  pub value_type : ValueType
  pub many : Bool

-- what the table says of a kind: its name, its parameters and the conditions on them, its inputs and outputs, whether the outputs rest on the
-- inputs at once, and how many words its state has
pub record Row : Type 0 where
  pub name : List ℕ
  pub parameters : List ParameterRow
  pub conditions : List Condition
  pub ins : List Group
  pub outs : List Group
  pub direct : Bool
  pub state : StateSize

abbrev pub parameter : String → ValueType → Preset → ParameterRow
parameter n t d = record { name = codes n; value_type = t; per_nin = false; preset = d }

-- the factors of a sum
abbrev pub factors : ValueType → ParameterRow
factors t = record { name = codes "k"; value_type = t; per_nin = true; preset = Ones }

abbrev pub single : String → ValueType → Group
single n t = record { name = codes n; value_type = t; many = false }

abbrev pub each : String → ValueType → Group
each n t = record { name = codes n; value_type = t; many = true }

-- the ports and parameters that most kinds have
abbrev pub u : ValueType → Group
u t = single "u" t

abbrev pub u1 : ValueType → Group
u1 t = single "u1" t

abbrev pub u2 : ValueType → Group
u2 t = single "u2" t

abbrev pub u3 : ValueType → Group
u3 t = single "u3" t

abbrev pub us : ValueType → Group
us t = each "u" t

abbrev pub y : ValueType → Group
y t = single "y" t

abbrev pub ys : ValueType → Group
ys t = each "y" t

abbrev pub nin : ParameterRow
nin = parameter "nin" Integer Absent

abbrev pub nout : ParameterRow
nout = parameter "nout" Integer Absent

-- the outputs rest on the inputs at once
abbrev pub entry : String → List ParameterRow → List Condition → List Group → List Group → StateSize → Row
entry n p c i o s = record { name = codes n; parameters = p; conditions = c; ins = i; outs = o; direct = true; state = s }

-- the outputs rest on inputs of earlier ticks alone
abbrev pub late : String → List ParameterRow → List Condition → List Group → List Group → StateSize → Row
late n p c i o s = record { name = codes n; parameters = p; conditions = c; ins = i; outs = o; direct = false; state = s }

-- the row of a kind; the default of a Real is a count of millionths
abbrev pub row : Kind → Row
row kind.LogicalAnd = entry "Logical.And" [] [] (u1 Boolean ∷ u2 Boolean ∷ []) (y Boolean ∷ []) (Words 0)
row kind.LogicalOr = entry "Logical.Or" [] [] (u1 Boolean ∷ u2 Boolean ∷ []) (y Boolean ∷ []) (Words 0)
row kind.LogicalNand = entry "Logical.Nand" [] [] (u1 Boolean ∷ u2 Boolean ∷ []) (y Boolean ∷ []) (Words 0)
row kind.LogicalNor = entry "Logical.Nor" [] [] (u1 Boolean ∷ u2 Boolean ∷ []) (y Boolean ∷ []) (Words 0)
row kind.LogicalXor = entry "Logical.Xor" [] [] (u1 Boolean ∷ u2 Boolean ∷ []) (y Boolean ∷ []) (Words 0)
row kind.LogicalNot = entry "Logical.Not" [] [] (u Boolean ∷ []) (y Boolean ∷ []) (Words 0)
row kind.LogicalMultiAnd = entry "Logical.MultiAnd" (nin ∷ []) (Count 0 ∷ []) (us Boolean ∷ []) (y Boolean ∷ []) (Words 0)
row kind.LogicalMultiOr = entry "Logical.MultiOr" (nin ∷ []) (Count 0 ∷ []) (us Boolean ∷ []) (y Boolean ∷ []) (Words 0)
row kind.LogicalEdge = entry "Logical.Edge" (parameter "pre_u_start" Boolean (PBoolean false) ∷ []) [] (u Boolean ∷ []) (y Boolean ∷ []) (Words 1)
row kind.LogicalFallingEdge =
    entry "Logical.FallingEdge" (parameter "pre_u_start" Boolean (PBoolean false) ∷ []) [] (u Boolean ∷ []) (y Boolean ∷ []) (Words 1)
row kind.LogicalChange = entry "Logical.Change" (parameter "pre_u_start" Boolean (PBoolean false) ∷ []) [] (u Boolean ∷ []) (y Boolean ∷ []) (Words 1)
row kind.LogicalLatch = entry "Logical.Latch" [] [] (u Boolean ∷ single "clr" Boolean ∷ []) (y Boolean ∷ []) (Words 2)
row kind.LogicalToggle = entry "Logical.Toggle" [] [] (u Boolean ∷ single "clr" Boolean ∷ []) (y Boolean ∷ []) (Words 2)
row kind.LogicalPre = late "Logical.Pre" (parameter "pre_u_start" Boolean (PBoolean false) ∷ []) [] (u Boolean ∷ []) (y Boolean ∷ []) (Words 1)
row kind.LogicalSwitch = entry "Logical.Switch" [] [] (u1 Boolean ∷ u2 Boolean ∷ u3 Boolean ∷ []) (y Boolean ∷ []) (Words 0)
row kind.IntegersSwitch = entry "Integers.Switch" [] [] (u1 Integer ∷ u2 Boolean ∷ u3 Integer ∷ []) (y Integer ∷ []) (Words 0)
row kind.RealsSwitch = entry "Reals.Switch" [] [] (u1 Real ∷ u2 Boolean ∷ u3 Real ∷ []) (y Real ∷ []) (Words 0)
row kind.LogicalTimer =
    entry "Logical.Timer" (parameter "t" Real (PReal (pos 0)) ∷ []) (NotNegative 0 ∷ []) (u Boolean ∷ []) (y Real ∷ single "passed" Boolean ∷ []) (Words 2)
row kind.LogicalTimerAccumulating =
    entry "Logical.TimerAccumulating" (parameter "t" Real (PReal (pos 0)) ∷ [])
    (NotNegative 0 ∷ []) (u Boolean ∷ single "reset" Boolean ∷ []) (y Real ∷ single "passed" Boolean ∷ []) (Words 4)
row kind.LogicalTrueDelay =
    entry "Logical.TrueDelay" (parameter "delayTime" Real Absent ∷ parameter "delayOnInit" Boolean (PBoolean false) ∷ [])
    (NotNegative 0 ∷ []) (u Boolean ∷ []) (y Boolean ∷ []) (Words 2)
row kind.LogicalTrueFalseHold =
    entry "Logical.TrueFalseHold" (parameter "trueHoldDuration" Real Absent ∷ parameter "falseHoldDuration" Real (Same 0) ∷ [])
    (NotNegative 0 ∷ NotNegative 1 ∷ []) (u Boolean ∷ []) (y Boolean ∷ []) (Words 2)
row kind.LogicalSourcesConstant = entry "Logical.Sources.Constant" (parameter "k" Boolean Absent ∷ []) [] [] (y Boolean ∷ []) (Words 0)
row kind.IntegersSourcesConstant = entry "Integers.Sources.Constant" (parameter "k" Integer Absent ∷ []) [] [] (y Integer ∷ []) (Words 0)
row kind.RealsSourcesConstant = entry "Reals.Sources.Constant" (parameter "k" Real Absent ∷ []) [] [] (y Real ∷ []) (Words 0)
row kind.LogicalSourcesPulse =
    entry "Logical.Sources.Pulse" (parameter "width" Real (PReal (pos 500000)) ∷ parameter "period" Real Absent ∷ parameter "shift" Real (PReal (pos 0)) ∷ [])
    (Share 0 ∷ Positive 1 ∷ []) [] (y Boolean ∷ []) (Words 0)
row kind.IntegersAbs = entry "Integers.Abs" [] [] (u Integer ∷ []) (y Integer ∷ []) (Words 0)
row kind.RealsAbs = entry "Reals.Abs" [] [] (u Real ∷ []) (y Real ∷ []) (Words 0)
row kind.IntegersAdd = entry "Integers.Add" [] [] (u1 Integer ∷ u2 Integer ∷ []) (y Integer ∷ []) (Words 0)
row kind.IntegersSubtract = entry "Integers.Subtract" [] [] (u1 Integer ∷ u2 Integer ∷ []) (y Integer ∷ []) (Words 0)
row kind.IntegersMultiply = entry "Integers.Multiply" [] [] (u1 Integer ∷ u2 Integer ∷ []) (y Integer ∷ []) (Words 0)
row kind.IntegersMax = entry "Integers.Max" [] [] (u1 Integer ∷ u2 Integer ∷ []) (y Integer ∷ []) (Words 0)
row kind.IntegersMin = entry "Integers.Min" [] [] (u1 Integer ∷ u2 Integer ∷ []) (y Integer ∷ []) (Words 0)
row kind.IntegersAddParameter = entry "Integers.AddParameter" (parameter "p" Integer Absent ∷ []) [] (u Integer ∷ []) (y Integer ∷ []) (Words 0)
row kind.IntegersMultiSum = entry "Integers.MultiSum" (nin ∷ factors Integer ∷ []) (Count 0 ∷ []) (us Integer ∷ []) (y Integer ∷ []) (Words 0)
row kind.IntegersEqual = entry "Integers.Equal" [] [] (u1 Integer ∷ u2 Integer ∷ []) (y Boolean ∷ []) (Words 0)
row kind.IntegersGreater = entry "Integers.Greater" [] [] (u1 Integer ∷ u2 Integer ∷ []) (y Boolean ∷ []) (Words 0)
row kind.IntegersGreaterEqual = entry "Integers.GreaterEqual" [] [] (u1 Integer ∷ u2 Integer ∷ []) (y Boolean ∷ []) (Words 0)
row kind.IntegersLess = entry "Integers.Less" [] [] (u1 Integer ∷ u2 Integer ∷ []) (y Boolean ∷ []) (Words 0)
row kind.IntegersLessEqual = entry "Integers.LessEqual" [] [] (u1 Integer ∷ u2 Integer ∷ []) (y Boolean ∷ []) (Words 0)
row kind.IntegersGreaterThreshold =
    entry "Integers.GreaterThreshold" (parameter "t" Integer (PInteger (pos 0)) ∷ []) [] (u Integer ∷ []) (y Boolean ∷ []) (Words 0)
row kind.IntegersGreaterEqualThreshold =
    entry "Integers.GreaterEqualThreshold" (parameter "t" Integer (PInteger (pos 0)) ∷ []) [] (u Integer ∷ []) (y Boolean ∷ []) (Words 0)
row kind.IntegersLessThreshold =
    entry "Integers.LessThreshold" (parameter "t" Integer (PInteger (pos 0)) ∷ []) [] (u Integer ∷ []) (y Boolean ∷ []) (Words 0)
row kind.IntegersLessEqualThreshold =
    entry "Integers.LessEqualThreshold" (parameter "t" Integer (PInteger (pos 0)) ∷ []) [] (u Integer ∷ []) (y Boolean ∷ []) (Words 0)
row kind.IntegersChange =
    entry "Integers.Change" (parameter "pre_u_start" Integer (PInteger (pos 0)) ∷ [])
    [] (u Integer ∷ []) (y Boolean ∷ single "up" Boolean ∷ single "down" Boolean ∷ []) (Words 1)
row kind.IntegersOnCounter =
    entry "Integers.OnCounter" (parameter "y_start" Integer (PInteger (pos 0)) ∷ [])
    [] (single "trigger" Boolean ∷ single "reset" Boolean ∷ []) (y Integer ∷ []) (Words 3)
row kind.RealsAdd = entry "Reals.Add" [] [] (u1 Real ∷ u2 Real ∷ []) (y Real ∷ []) (Words 0)
row kind.RealsSubtract = entry "Reals.Subtract" [] [] (u1 Real ∷ u2 Real ∷ []) (y Real ∷ []) (Words 0)
row kind.RealsMultiply = entry "Reals.Multiply" [] [] (u1 Real ∷ u2 Real ∷ []) (y Real ∷ []) (Words 0)
row kind.RealsDivide = entry "Reals.Divide" [] [] (u1 Real ∷ u2 Real ∷ []) (y Real ∷ []) (Words 0)
row kind.RealsMax = entry "Reals.Max" [] [] (u1 Real ∷ u2 Real ∷ []) (y Real ∷ []) (Words 0)
row kind.RealsMin = entry "Reals.Min" [] [] (u1 Real ∷ u2 Real ∷ []) (y Real ∷ []) (Words 0)
row kind.RealsAddParameter = entry "Reals.AddParameter" (parameter "p" Real Absent ∷ []) [] (u Real ∷ []) (y Real ∷ []) (Words 0)
row kind.RealsMultiplyByParameter = entry "Reals.MultiplyByParameter" (parameter "k" Real Absent ∷ []) [] (u Real ∷ []) (y Real ∷ []) (Words 0)
row kind.RealsAverage = entry "Reals.Average" [] [] (u1 Real ∷ u2 Real ∷ []) (y Real ∷ []) (Words 0)
row kind.RealsModulo = entry "Reals.Modulo" [] [] (u1 Real ∷ u2 Real ∷ []) (y Real ∷ []) (Words 0)
row kind.RealsMultiSum = entry "Reals.MultiSum" (nin ∷ factors Real ∷ []) (Count 0 ∷ []) (us Real ∷ []) (y Real ∷ []) (Words 0)
row kind.RealsMultiMax = entry "Reals.MultiMax" (nin ∷ []) (Count 0 ∷ []) (us Real ∷ []) (y Real ∷ []) (Words 0)
row kind.RealsMultiMin = entry "Reals.MultiMin" (nin ∷ []) (Count 0 ∷ []) (us Real ∷ []) (y Real ∷ []) (Words 0)
row kind.RealsGreater =
    entry "Reals.Greater" (parameter "h" Real (PReal (pos 0)) ∷ parameter "pre_y_start" Boolean (PBoolean false) ∷ [])
    (NotNegative 0 ∷ []) (u1 Real ∷ u2 Real ∷ []) (y Boolean ∷ []) (Words 1)
row kind.RealsLess =
    entry "Reals.Less" (parameter "h" Real (PReal (pos 0)) ∷ parameter "pre_y_start" Boolean (PBoolean false) ∷ [])
    (NotNegative 0 ∷ []) (u1 Real ∷ u2 Real ∷ []) (y Boolean ∷ []) (Words 1)
row kind.RealsGreaterThreshold =
    entry "Reals.GreaterThreshold" (parameter "t" Real (PReal (pos 0)) ∷ parameter "h" Real (PReal (pos 0)) ∷ parameter "pre_y_start" Boolean (PBoolean false) ∷ [])
    (NotNegative 1 ∷ []) (u Real ∷ []) (y Boolean ∷ []) (Words 1)
row kind.RealsLessThreshold =
    entry "Reals.LessThreshold" (parameter "t" Real (PReal (pos 0)) ∷ parameter "h" Real (PReal (pos 0)) ∷ parameter "pre_y_start" Boolean (PBoolean false) ∷ [])
    (NotNegative 1 ∷ []) (u Real ∷ []) (y Boolean ∷ []) (Words 1)
row kind.RealsHysteresis =
    entry "Reals.Hysteresis" (parameter "uLow" Real Absent ∷ parameter "uHigh" Real Absent ∷ parameter "pre_y_start" Boolean (PBoolean false) ∷ [])
    (Below 0 1 ∷ []) (u Real ∷ []) (y Boolean ∷ []) (Words 1)
row kind.RealsLimiter =
    entry "Reals.Limiter" (parameter "uMax" Real Absent ∷ parameter "uMin" Real Absent ∷ []) (Below 1 0 ∷ []) (u Real ∷ []) (y Real ∷ []) (Words 0)
row kind.RealsLine =
    entry "Reals.Line" (parameter "limitBelow" Boolean (PBoolean true) ∷ parameter "limitAbove" Boolean (PBoolean true) ∷ [])
    [] (single "x1" Real ∷ single "f1" Real ∷ single "x2" Real ∷ single "f2" Real ∷ u Real ∷ []) (y Real ∷ []) (Words 0)
row kind.ConversionsBooleanToInteger =
    entry "Conversions.BooleanToInteger" (parameter "integerTrue" Integer (PInteger (pos 1)) ∷ parameter "integerFalse" Integer (PInteger (pos 0)) ∷ [])
    [] (u Boolean ∷ []) (y Integer ∷ []) (Words 0)
row kind.ConversionsBooleanToReal =
    entry "Conversions.BooleanToReal" (parameter "realTrue" Real (PReal (pos 1000000)) ∷ parameter "realFalse" Real (PReal (pos 0)) ∷ [])
    [] (u Boolean ∷ []) (y Real ∷ []) (Words 0)
row kind.ConversionsIntegerToReal = entry "Conversions.IntegerToReal" [] [] (u Integer ∷ []) (y Real ∷ []) (Words 0)
row kind.ConversionsRealToInteger = entry "Conversions.RealToInteger" [] [] (u Real ∷ []) (y Integer ∷ []) (Words 0)
row kind.DiscreteSampler =
    entry "Discrete.Sampler" (parameter "samplePeriod" Real Absent ∷ []) (Positive 0 ∷ []) (u Real ∷ []) (y Real ∷ []) (Words 2)
row kind.DiscreteZeroOrderHold =
    entry "Discrete.ZeroOrderHold" (parameter "samplePeriod" Real Absent ∷ []) (Positive 0 ∷ []) (u Real ∷ []) (y Real ∷ []) (Words 2)
row kind.DiscreteUnitDelay =
    late "Discrete.UnitDelay" (parameter "samplePeriod" Real Absent ∷ parameter "y_start" Real (PReal (pos 0)) ∷ [])
    (Positive 0 ∷ []) (u Real ∷ []) (y Real ∷ []) (Words 3)
row kind.DiscreteTriggeredSampler =
    entry "Discrete.TriggeredSampler" (parameter "y_start" Real (PReal (pos 0)) ∷ []) [] (u Real ∷ single "trigger" Boolean ∷ []) (y Real ∷ []) (Words 2)
row kind.DiscreteTriggeredMax = entry "Discrete.TriggeredMax" [] [] (u Real ∷ single "trigger" Boolean ∷ []) (y Real ∷ []) (Words 3)
row kind.DiscreteTriggeredMovingMean =
    entry "Discrete.TriggeredMovingMean" (parameter "n" Integer Absent ∷ []) (Window 0 ∷ []) (u Real ∷ single "trigger" Boolean ∷ []) (y Real ∷ []) (Samples 3)
row kind.RoutingBooleanScalarReplicator =
    entry "Routing.BooleanScalarReplicator" (nout ∷ []) (Count 0 ∷ []) (u Boolean ∷ []) (ys Boolean ∷ []) (Words 0)
row kind.RoutingIntegerScalarReplicator =
    entry "Routing.IntegerScalarReplicator" (nout ∷ []) (Count 0 ∷ []) (u Integer ∷ []) (ys Integer ∷ []) (Words 0)
row kind.RoutingRealScalarReplicator = entry "Routing.RealScalarReplicator" (nout ∷ []) (Count 0 ∷ []) (u Real ∷ []) (ys Real ∷ []) (Words 0)
