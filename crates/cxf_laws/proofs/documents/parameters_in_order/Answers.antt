use Rattle.cxf_laws.proofs.Plain.{graph_ordered}
use Rattle.cxf_laws.proofs.documents.parameters_in_order.Goals as goal

pub returns : goal.returns
returns c = graph_ordered
