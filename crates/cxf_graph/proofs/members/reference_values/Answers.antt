use Rattle.std.proofs.Common.{IsUtf8, arith}
use Rattle.cxf_graph.proofs.Each.{all_at}
use Rattle.cxf_graph.proofs.members.reference_values.Goals as goal

pub reference-requires : goal.reference-requires
reference-requires c = all_at IsUtf8 c.args.ids.now c.loop-id.id-index c.id-item.result c.requires (omega arith) c.id-item.is
