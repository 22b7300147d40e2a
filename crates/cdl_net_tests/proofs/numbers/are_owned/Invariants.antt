use Rattle.std.proofs.Common.{ℕ, ◌<◌, length}
use Rattle.cdl_connect.specs.Nets.{element}
use Rattle.cdl_net_tests.proofs.numbers.are_owned.Given as goal

abbrev pub invariant-loop-x : goal.invariant-loop-x
invariant-loop-x l = (x : ℕ) → x < l.x → (element l.net x).instance < length l.net.instances
