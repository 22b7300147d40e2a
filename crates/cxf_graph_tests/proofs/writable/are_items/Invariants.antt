use Rattle.std.proofs.Common.{All, take}
use Rattle.cxf_graph.specs.Document.{IsItem}
use Rattle.cxf_graph_tests.proofs.writable.are_items.Given as goal

abbrev pub invariant-loop-item : goal.invariant-loop-item
invariant-loop-item l = All IsItem (take l.item-index l.items)
