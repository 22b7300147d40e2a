-- The kinds whose blocks have no memory.
use Rattle.std.specs.Prelude.{Bool, true, false}
use Rattle.cdl_kinds.specs.declared.kind.Kind.{Kind}
use Rattle.cdl_kinds.specs.declared.kind.Kind.TheVariants.{LogicalEdge, LogicalFallingEdge, LogicalChange, LogicalLatch, LogicalToggle, LogicalPre, LogicalTimer, LogicalTimerAccumulating, LogicalTrueDelay, LogicalTrueFalseHold, LogicalSourcesPulse, IntegersChange, IntegersOnCounter, RealsGreater, RealsLess, RealsGreaterThreshold, RealsLessThreshold, RealsHysteresis, DiscreteSampler, DiscreteZeroOrderHold, DiscreteUnitDelay, DiscreteTriggeredSampler, DiscreteTriggeredMax, DiscreteTriggeredMovingMean}

-- the outputs rest on the inputs of the same tick alone: not so where a kind has state words, nor at a Pulse, which looks at the time
abbrev pub is_memoryless : Kind → Bool
is_memoryless LogicalEdge = false
is_memoryless LogicalFallingEdge = false
is_memoryless LogicalChange = false
is_memoryless LogicalLatch = false
is_memoryless LogicalToggle = false
is_memoryless LogicalPre = false
is_memoryless LogicalTimer = false
is_memoryless LogicalTimerAccumulating = false
is_memoryless LogicalTrueDelay = false
is_memoryless LogicalTrueFalseHold = false
is_memoryless LogicalSourcesPulse = false
is_memoryless IntegersChange = false
is_memoryless IntegersOnCounter = false
is_memoryless RealsGreater = false
is_memoryless RealsLess = false
is_memoryless RealsGreaterThreshold = false
is_memoryless RealsLessThreshold = false
is_memoryless RealsHysteresis = false
is_memoryless DiscreteSampler = false
is_memoryless DiscreteZeroOrderHold = false
is_memoryless DiscreteUnitDelay = false
is_memoryless DiscreteTriggeredSampler = false
is_memoryless DiscreteTriggeredMax = false
is_memoryless DiscreteTriggeredMovingMean = false
is_memoryless _ = true
