use Rattle.std.proofs.Common.{ℕ, ◌<◌, ◌≡◌, Some, slice_get}
use Rattle.cdl_connect.specs.declared.net.NetInstance.{NetInstance}
use Rattle.cdl_connect.specs.WellFormed.{FitsBody}
use Rattle.cdl_run_tests.proofs.kinds.are_of_kinds.Given as goal

abbrev pub invariant-loop-i : goal.invariant-loop-i
invariant-loop-i l = (k : ℕ) (t : NetInstance) → k < l.i → slice_get l.net.instances k ≡ Some t → FitsBody l.net t t.body
