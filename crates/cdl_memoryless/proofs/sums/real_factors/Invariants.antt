use Rattle.std.proofs.Common.{◌≡◌, map, take}
use Rattle.cdl_values.specs.Values.{real_of}
use Rattle.cdl_memoryless.proofs.sums.real_factors.Given as goal

abbrev pub invariant-loop-i : goal.invariant-loop-i
invariant-loop-i l = take l.i l.reals ≡ map real_of (take l.i l.factors)
