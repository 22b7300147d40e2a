use Rattle.cxf_graph.proofs.Back.{graph_back}
use Rattle.cxf_graph.proofs.law.written_is_read.Goals as goal

pub returns : goal.returns
returns c = graph_back
