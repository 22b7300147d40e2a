use Rattle.std.proofs.Common.{◌≡◌, ℕ, ◌<◌, get_or, length, take}
use Rattle.cdl_connect.specs.Faults.{FineWires}
use Rattle.cdl_connect.specs.inner.Numbers.{endings}
use Rattle.cdl_connect.proofs.check.count_wires.Given as goal

abbrev pub invariant-loop-k : goal.invariant-loop-k
invariant-loop-k l = (length l.counts ≡ length l.net.elements) × FineWires l.net l.k × ((x : ℕ) → x < length l.net.elements → get_or l.counts x 0 ≡ endings l.net (take l.k l.net.wires) x)
