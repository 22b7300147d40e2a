use Rattle.cxf_laws.proofs.Ids.{net_back}
use Rattle.cxf_laws.proofs.documents.net_is_read_back.Goals as goal

pub returns : goal.returns
returns c = net_back
