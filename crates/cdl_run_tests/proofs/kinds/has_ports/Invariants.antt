use Rattle.std.proofs.Common.{ℕ, ◌+◌, ◌<◌}
use Rattle.cdl_kinds.specs.Ports.{port_at}
use Rattle.cdl_connect.specs.Nets.{element}
use Rattle.cdl_connect.specs.WellFormed.{IsPort}
use Rattle.cdl_run_tests.proofs.kinds.has_ports.Given as goal

abbrev pub invariant-loop-j : goal.invariant-loop-j
invariant-loop-j l = (k : ℕ) → k < l.j → IsPort (port_at l.kind l.params k) (element l.net (l.t.first + k))
