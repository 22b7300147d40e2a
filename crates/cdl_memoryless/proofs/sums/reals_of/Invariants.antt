use Rattle.std.proofs.Common.{◌≡◌, take}
use Rattle.cdl_memoryless.proofs.sums.reals_of.Given as goal

abbrev pub invariant-loop-i : goal.invariant-loop-i
invariant-loop-i l = take l.i l.reals ≡ take l.i l.words
