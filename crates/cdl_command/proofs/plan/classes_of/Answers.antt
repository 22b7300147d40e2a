use Rattle.cdl_command.proofs.FormedTrees.{trees_formed}
use Rattle.cdl_command.proofs.ModelFacts.{are_short}
use Rattle.cdl_command.proofs.plan.classes_of.Goals as goal

pub refusal_in-requires : goal.refusal_in-requires
refusal_in-requires c = are_short c.args.texts.now c.args.trees c.requires.have

pub build-requires-clause-formed : goal.build-requires-clause-formed
build-requires-clause-formed c = trees_formed c.args.texts.now c.args.trees c.requires.have
