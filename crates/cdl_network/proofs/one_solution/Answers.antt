use Rattle.std.proofs.Common.{[]}
use Rattle.cdl_network.proofs.Solving.{solution, one_list, one_fault}
use Rattle.cdl_network.proofs.one_solution.Goals as goal

pub returns-clause-some : goal.returns-clause-some
returns-clause-some g c n origin top ts d p o = solution n origin top ts [] d p o

pub returns-clause-only : goal.returns-clause-only
returns-clause-only g c n top ts vs ws d p f h = one_list n top ts [] [] vs ws d p tt f h

pub returns-clause-fault : goal.returns-clause-fault
returns-clause-fault g c n ts vs ws d f = one_fault n ts [] [] vs ws d tt f
