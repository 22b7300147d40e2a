use Rattle.std.proofs.Common.{rules, arith}
use Rattle.std.proofs.lemmas.Grind.{common_steps}
use Rattle.cdl_tree.specs.Terminals.{symbol}
use Rattle.cdl_tree.proofs.terminal.symbol.Goals as goal

pub returns : goal.returns
unfolding symbol
returns c = first_of (search rules, grind (arith, common_steps))
