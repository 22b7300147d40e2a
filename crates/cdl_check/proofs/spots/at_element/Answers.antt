use Rattle.cdl_check.proofs.FirstRule.{element_refused}
use Rattle.cdl_check.proofs.spots.at_element.Goals as goal

pub returns : goal.returns
returns c = element_refused c.args.net.now c.args.x c.args.rule c.in_ok-path.path c.requires.first c.in_ok-path.ensures
