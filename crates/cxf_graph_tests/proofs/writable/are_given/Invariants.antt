use Rattle.std.proofs.Common.{All, take}
use Rattle.cxf_graph.specs.Document.{IsGiven}
use Rattle.cxf_graph_tests.proofs.writable.are_given.Given as goal

abbrev pub invariant-loop-parameter : goal.invariant-loop-parameter
invariant-loop-parameter l = All IsGiven (take l.parameter-index l.given)
