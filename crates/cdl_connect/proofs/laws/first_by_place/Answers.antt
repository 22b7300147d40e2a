use Rattle.cdl_connect.proofs.Networks.{fault_first, none_first}
use Rattle.cdl_connect.proofs.laws.first_by_place.Goals as goal

pub returns-clause-fault : goal.returns-clause-fault
returns-clause-fault c n f p h s = fault_first n f p h s

pub returns-clause-unbroken : goal.returns-clause-unbroken
returns-clause-unbroken c n u = none_first n u
