use Rattle.std.proofs.Common.{ℕ, ◌<◌, ◌≡◌, true}
use Rattle.cdl_connect.specs.Nets.{element}
use Rattle.cdl_connect.specs.WellFormed.{is_plain}
use Rattle.cdl_run_tests.proofs.kinds.are_plain.Given as goal

abbrev pub invariant-loop-x : goal.invariant-loop-x
invariant-loop-x l = (y : ℕ) → y < l.x → is_plain (element l.net y).value_type ≡ true
