use Rattle.cdl_stations.proofs.Unique.{before_asym, before_trans}
use Rattle.cdl_stations.proofs.Firsts.{compared, inside, by_number}
use Rattle.cdl_stations.proofs.law.keys_are_ordered.Goals as goal

pub returns-clause-one_of_three : goal.returns-clause-one_of_three
returns-clause-one_of_three c = compared

pub returns-clause-never_both : goal.returns-clause-never_both
returns-clause-never_both c = before_asym

pub returns-clause-behind : goal.returns-clause-behind
returns-clause-behind c = before_trans

pub returns-clause-inside : goal.returns-clause-inside
returns-clause-inside c = inside

pub returns-clause-by_number : goal.returns-clause-by_number
returns-clause-by_number c = by_number
