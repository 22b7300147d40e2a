use Rattle.std.proofs.Common.{rules, arith}
use Rattle.std.proofs.lemmas.Grind.{common_steps}
use Rattle.cdl_tree.specs.Terminals.{keyword}
use Rattle.cdl_tree.proofs.terminal.keyword.Goals as goal

pub returns : goal.returns
unfolding keyword
returns c = first_of (search rules, grind (arith, common_steps))
