use Rattle.cdl_kinds.specs.Names.{kinds}
use Rattle.cdl_kinds.proofs.Finding.{found_exact}
use Rattle.cdl_kinds.proofs.kind.find.Goals as goal

pub returns : goal.returns
unfolding kinds
returns c k = found_exact c.args.name.now k c.find_in.result c.find_in.ensures
