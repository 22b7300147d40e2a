use Rattle.std.proofs.Common.{◌≡◌, ◌++◌, drop}
use Rattle.cdl_paths.specs.HandOut as spec
use Rattle.cdl_paths.proofs.handing.indices_left.Given as goal

abbrev pub invariant-loop-i : goal.invariant-loop-i
invariant-loop-i l = l.indices ++ spec.indices_left (drop l.i l.outs) (drop l.i l.steps) ≡ spec.indices_left l.outs l.steps
