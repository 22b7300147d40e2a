use Rattle.cdl_expand.proofs.Windows.{stopped}
use Rattle.cdl_expand.proofs.parts.end_of.Goals as goal

pub returns-else-elements-end-clause-end : goal.returns-else-elements-end-clause-end
returns-else-elements-end-clause-end c = stopped c.args.elements.now c.args.number c.args.first c.loop-end.end c.index-elements-end.result c.requires.sorted c.requires.first c.loop-end.invariant.behind c.loop-end-test.true c.loop-end.invariant.own c.if-elements-end.false
