use Rattle.std.proofs.Common.{IsUtf8, All, take}
use Rattle.cxf_graph_tests.proofs.writable.are_texts.Given as goal

abbrev pub invariant-loop-text : goal.invariant-loop-text
invariant-loop-text l = All IsUtf8 (take l.text-index l.texts)
