use Rattle.std.proofs.Common.{ℕ, ◌<◌, ◌≡◌, Some, slice_get}
use Rattle.cdl_connect.specs.declared.net.RawWire.{RawWire}
use Rattle.cdl_net_tests.specs.Fine.{IsFineWire}
use Rattle.cdl_net_tests.proofs.numbers.are_fine_wires.Given as goal

abbrev pub invariant-loop-k : goal.invariant-loop-k
invariant-loop-k l = (k : ℕ) (w : RawWire) → k < l.k → slice_get l.net.wires k ≡ Some w → IsFineWire l.net w
