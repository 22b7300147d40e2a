use Rattle.cxf_laws.proofs.Order.{value_back}
use Rattle.cxf_laws.proofs.documents.values_read_back.Goals as goal

pub returns : goal.returns
returns c = value_back
