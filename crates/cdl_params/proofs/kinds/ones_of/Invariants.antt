use Rattle.std.proofs.Common.{◌≡◌, replicate}
use Rattle.cdl_worth.specs.Values.{one_of}
use Rattle.cdl_params.proofs.kinds.ones_of.Given as goal

abbrev pub invariant-loop-i : goal.invariant-loop-i
invariant-loop-i l = l.items ≡ replicate l.i (one_of l.value_type)
