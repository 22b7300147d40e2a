use Rattle.std.proofs.Common.{◌≡◌, map, take}
use Rattle.serde_json.specs.View.{view}
use Rattle.cxf_graph.specs.Document.{reference}
use Rattle.cxf_graph.proofs.members.reference_values.Given as goal

abbrev pub invariant-loop-id : goal.invariant-loop-id
invariant-loop-id l = map view l.values.items ≡ map reference (take l.id-index l.ids)
