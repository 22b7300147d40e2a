use Rattle.cdl_network.proofs.Accepted.{accepted_there, accepted_back}
use Rattle.cdl_network.proofs.Rules.{words_same}
use Rattle.cdl_network.proofs.Looping.{broken_there, broken_back, loop_there, loop_back}
use Rattle.cdl_network.proofs.one_rule.Goals as goal

pub returns-clause-there : goal.returns-clause-there
returns-clause-there g c a b m n p d r f = broken_there a b m n p d r f

pub returns-clause-back : goal.returns-clause-back
returns-clause-back g c a b m n q d r f = broken_back a b m n q d r f

pub returns-clause-loop_there : goal.returns-clause-loop_there
returns-clause-loop_there g c a b m n x d r l = loop_there a b m n x d r l

pub returns-clause-loop_back : goal.returns-clause-loop_back
returns-clause-loop_back g c a b m n x d r i l = loop_back a b m n x d r i l

pub returns-clause-accepted : goal.returns-clause-accepted
returns-clause-accepted g c a b m n d r = (accepted_there a b m n d r, accepted_back a b m n d r)

pub returns-clause-words : goal.returns-clause-words
returns-clause-words g c a b m n r = words_same a b m n r
