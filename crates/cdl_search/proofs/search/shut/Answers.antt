use Rattle.std.proofs.Common.{length}
use Rattle.std.proofs.lemmas.Result.{on_ok_weaker}
use Rattle.cdl_search.proofs.Working.{step_close}
use Rattle.cdl_search.proofs.search.shut.Goals as goal

pub returns : goal.returns
returns c = on_ok_weaker c.close.result (step_close c.args.first.now c.args.edges.now (length c.args.s.now.marks.items) c.args.s.now c.close.new.s c.requires.found c.requires.some c.requires.none) c.close.ensures
