use Rattle.std.proofs.Common.{◌≡◌, filter, map}
use Rattle.cdl_network.specs.Dependence.{is_root_input}
use Rattle.cdl_network.specs.Lists.{numbers}
use Rattle.cdl_connect.specs.Nets.{network_of}
use Rattle.cdl_run_tests.proofs.roots.rows_in.Given as goal

abbrev pub invariant-loop-x : goal.invariant-loop-x
invariant-loop-x l = l.rows.items ≡ map (network_of l.net).value_type (filter (is_root_input (network_of l.net)) (numbers 0 l.x))
