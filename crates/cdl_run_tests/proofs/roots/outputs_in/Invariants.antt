use Rattle.std.proofs.Common.{◌≡◌, filter}
use Rattle.cdl_network.specs.Lists.{numbers}
use Rattle.cdl_run.specs.Words.{is_root_output}
use Rattle.cdl_run_tests.proofs.roots.outputs_in.Given as goal

abbrev pub invariant-loop-x : goal.invariant-loop-x
invariant-loop-x l = l.outputs.items ≡ filter (is_root_output l.net) (numbers 0 l.x)
