use Rattle.std.proofs.Common.{◌≡◌}
use Rattle.cdl_run.specs.Words.{elementary_below}
use Rattle.cdl_run_tests.proofs.roots.blocks_in.Given as goal

abbrev pub invariant-loop-i : goal.invariant-loop-i
invariant-loop-i l = l.blocks.items ≡ elementary_below l.net l.i
