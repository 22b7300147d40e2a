use Rattle.std.proofs.Common.{arith}
use Rattle.cxf_graph.specs.Document.{IsPair}
use Rattle.cxf_graph.proofs.Each.{all_at}
use Rattle.cxf_graph.proofs.json.pair_values.Goals as goal

pub pair_value-requires : goal.pair_value-requires
pair_value-requires c = all_at IsPair c.args.pairs.now c.loop-pair.pair-index c.pair-item.result c.requires (omega arith) c.pair-item.is
