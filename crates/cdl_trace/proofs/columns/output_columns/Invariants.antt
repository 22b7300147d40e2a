use Rattle.std.proofs.Common.{◌≡◌, filter, map}
use Rattle.cdl_network.specs.Lists.{numbers}
use Rattle.cdl_connect.specs.Nets.{network_of}
use Rattle.cdl_trace.specs.Columns.{column_of, is_root_output, labelled}
use Rattle.cdl_trace.proofs.columns.output_columns.Given as goal

abbrev pub invariant-loop-x : goal.invariant-loop-x
invariant-loop-x l = l.columns ≡ map (column_of (labelled l.net)) (filter (is_root_output (network_of l.net)) (numbers 0 l.x))
