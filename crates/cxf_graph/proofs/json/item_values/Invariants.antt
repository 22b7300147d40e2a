use Rattle.std.proofs.Common.{◌≡◌, map, take}
use Rattle.serde_json.specs.View.{view}
use Rattle.cxf_graph.specs.Document.{item_data}
use Rattle.cxf_graph.proofs.json.item_values.Given as goal

abbrev pub invariant-loop-item : goal.invariant-loop-item
invariant-loop-item l = map view l.values.items ≡ map item_data (take l.item-index l.items)
