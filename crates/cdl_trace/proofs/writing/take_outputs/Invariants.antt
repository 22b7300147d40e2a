use Rattle.std.proofs.Common.{◌≡◌, map, take}
use Rattle.cdl_values.specs.History.{word}
use Rattle.cdl_connect.specs.Nets.{network_of}
use Rattle.cdl_trace.specs.Columns.{root_outputs}
use Rattle.cdl_trace.proofs.writing.take_outputs.Given as goal

abbrev pub invariant-loop-i : goal.invariant-loop-i
invariant-loop-i l = take l.i l.words ≡ map (word l.runner.words) (take l.i (root_outputs (network_of l.runner.net)))
