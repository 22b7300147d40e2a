use Rattle.cdl_tree.proofs.Meanings.{means_of, none_of}
use Rattle.cdl_tree.proofs.literal.string.Goals as goal

pub returns-clause-means : goal.returns-clause-means
returns-clause-means c = means_of c.args.text.now c.unquoted.result c.unquoted.ensures

pub returns-clause-none : goal.returns-clause-none
returns-clause-none c = none_of c.args.text.now c.unquoted.result c.unquoted.ensures
