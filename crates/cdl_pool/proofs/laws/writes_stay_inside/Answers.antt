use Rattle.cdl_pool.proofs.Overwrites.{others_stay}
use Rattle.cdl_pool.proofs.laws.writes_stay_inside.Goals as goal

pub returns-clause-others : goal.returns-clause-others
returns-clause-others c words new w v fits there wide apart = others_stay words new w v fits wide apart
