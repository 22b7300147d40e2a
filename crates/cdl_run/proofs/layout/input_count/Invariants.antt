use Rattle.std.proofs.Common.{◌≡◌, ◌+◌, ◌<◌, ℕ, true}
use Rattle.cdl_connect.specs.Nets.{element}
use Rattle.cdl_run.proofs.layout.input_count.Given as goal

abbrev pub invariant-loop-j : goal.invariant-loop-j
invariant-loop-j l = (q : ℕ) → q < l.j → (element l.net (l.instance.first + q)).input ≡ true
