use Rattle.cdl_net_examples.proofs.Order.{negation_no_loop, negation_solution}
use Rattle.cdl_net_examples.proofs.examples.negation_has_one_solution.Goals as goal

pub returns : goal.returns
returns c = record { no_loop = negation_no_loop; solution = negation_solution }
