use Rattle.std.proofs.Common.{All, take}
use Rattle.cxf_graph.specs.Document.{IsPair}
use Rattle.cxf_graph_tests.proofs.writable.are_pairs.Given as goal

abbrev pub invariant-loop-pair : goal.invariant-loop-pair
invariant-loop-pair l = All IsPair (take l.pair-index l.pairs)
