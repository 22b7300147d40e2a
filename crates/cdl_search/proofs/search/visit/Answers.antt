use Rattle.cdl_search.proofs.Working.{not_new}
use Rattle.cdl_search.proofs.search.visit.Goals as goal

pub returns-clause-done : goal.returns-clause-done
returns-clause-done c = not_new c.args.first.now c.args.edges.now _ c.args.u c.index.result.now c.args.s.now c.requires.found c.requires.none c.requires.inside c.index.ensures c.if-index-eq0.false
