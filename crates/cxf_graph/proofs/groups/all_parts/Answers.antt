use Rattle.std.proofs.Common.{length}
use Rattle.cxf_graph.proofs.Each.{parent_fits}
use Rattle.cxf_graph.proofs.groups.all_parts.Goals as goal

pub push_part-requires : goal.push_part-requires
push_part-requires c = parent_fits c.args.net.now c.items-instances.result.now c.loop-k.k c.index-instances-k.result (length c.loop-k.lists.items) c.requires c.items-instances.ensures c.loop-k-test.true c.index-instances-k.is c.loop-k.invariant.0
