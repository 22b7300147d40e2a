use Rattle.std.proofs.Common.{ℕ, ◌<◌, ◌≡◌, Some, slice_get}
use Rattle.cdl_connect.specs.declared.net.NetInstance.{NetInstance}
use Rattle.cdl_net_tests.specs.Fine.{IsFineInstance}
use Rattle.cdl_net_tests.proofs.numbers.are_fine_instances.Given as goal

abbrev pub invariant-loop-i : goal.invariant-loop-i
invariant-loop-i l = (i : ℕ) (t : NetInstance) → i < l.i → slice_get l.net.instances i ≡ Some t → IsFineInstance l.net i t
