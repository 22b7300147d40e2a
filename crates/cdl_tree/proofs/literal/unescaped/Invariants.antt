use Rattle.std.proofs.Common.{◌≡◌, false, length}
use Rattle.cdl_tree.specs.inner.Strings as spec
use Rattle.cdl_tree.proofs.literal.unescaped.Given as goal

abbrev pub invariant-loop-rest : goal.invariant-loop-rest
invariant-loop-rest l = spec.behind l.bytes (spec.unescaped l.escape l.rest) ≡ spec.unescaped false l.initial.rest

abbrev pub decreases-loop-rest : goal.decreases-loop-rest
decreases-loop-rest l = length l.rest
