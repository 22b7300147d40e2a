use Rattle.std.proofs.Common.{◌≡◌, map, take}
use Rattle.cxf_graph.specs.Written.{given_item}
use Rattle.cxf_graph.proofs.given.given_items.Given as goal

abbrev pub invariant-loop-item : goal.invariant-loop-item
invariant-loop-item l = l.given ≡ map given_item (take l.item-index l.items)
