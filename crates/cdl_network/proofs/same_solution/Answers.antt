use Rattle.std.proofs.Common.{[]}
use Rattle.cdl_network.proofs.Renaming.{solves_back, solves_there, fault_back}
use Rattle.cdl_network.proofs.same_solution.Goals as goal

pub returns-clause-back : goal.returns-clause-back
returns-clause-back g c a b m n ts us d r f = solves_back a b m n ts [] us d r f

pub returns-clause-there : goal.returns-clause-there
returns-clause-there g c a b m n ts us d r f = solves_there a b m n ts [] us d r f

pub returns-clause-fault : goal.returns-clause-fault
returns-clause-fault g c a b m n ts us d r = fault_back a b m n ts [] us d r
