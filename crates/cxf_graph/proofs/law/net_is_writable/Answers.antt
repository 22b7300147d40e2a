use Rattle.cxf_graph.proofs.Writable.{graph_writable}
use Rattle.cxf_graph.proofs.law.net_is_writable.Goals as goal

pub returns : goal.returns
returns c = graph_writable
