use Rattle.cdl_model.proofs.Corresponding.{unfolded_renamed, path_is, name_is}
use Rattle.cdl_model.proofs.laws.net_is_model.Goals as goal

pub returns-clause-renamed : goal.returns-clause-renamed
returns-clause-renamed c w u n d r = unfolded_renamed w u n d r

pub returns-clause-path : goal.returns-clause-path
returns-clause-path c w u n p d r i = path_is w u n p d r i

pub returns-clause-name : goal.returns-clause-name
returns-clause-name c w u n x d r i = name_is w u n x d r i
