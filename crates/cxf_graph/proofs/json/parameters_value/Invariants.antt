use Rattle.std.proofs.Common.{◌≡◌, drop}
use Rattle.serde_json.specs.Data.{no_members}
use Rattle.serde_json.specs.View.{members_view}
use Rattle.cxf_graph.specs.Document.{given_members}
use Rattle.cxf_graph.proofs.json.parameters_value.Given as goal

abbrev pub invariant-loop-parameter : goal.invariant-loop-parameter
invariant-loop-parameter l = given_members no_members l.given ≡ given_members (members_view l.members.entries) (drop l.parameter-index l.given)
