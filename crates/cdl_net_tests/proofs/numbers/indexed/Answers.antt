use Rattle.cdl_net_tests.proofs.Indexing.{indexed_of}
use Rattle.cdl_net_tests.proofs.numbers.indexed.Goals as goal

pub returns-then-are_fine_wires-clause-good : goal.returns-then-are_fine_wires-clause-good
returns-then-are_fine_wires-clause-good c =
    indexed_of c.args.net (c.are_few.ensures c.if-are_few.true) (c.are_owned.ensures c.if-are_owned.true) (c.are_rising.ensures c.if-are_rising.true)
    (c.are_fine_instances.ensures c.if-are_fine_instances.true) (c.are_fine_wires.ensures c.if-are_fine_wires.true)
