use Rattle.std.proofs.Common.{◌≡◌, replicate}
use Rattle.cdl_paths.proofs.handing.replicate.Given as goal

abbrev pub invariant-loop-i : goal.invariant-loop-i
invariant-loop-i l = l.items ≡ replicate l.i l.value
