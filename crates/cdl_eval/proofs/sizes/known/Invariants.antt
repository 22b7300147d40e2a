use Rattle.std.proofs.Common.{◌≡◌, ◌++◌, drop}
use Rattle.cdl_worth.specs.Sizes as spec
use Rattle.cdl_eval.proofs.sizes.known.Given as goal

abbrev pub invariant-loop-i : goal.invariant-loop-i
invariant-loop-i l = l.known ++ spec.known (drop l.i l.sizes) ≡ spec.known l.sizes
