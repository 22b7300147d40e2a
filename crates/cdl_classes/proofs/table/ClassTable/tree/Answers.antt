use Rattle.cdl_classes.proofs.FormedClasses.{declared_formed}
use Rattle.cdl_classes.proofs.table.ClassTable.tree.Goals as goal

pub returns-clause-formed : goal.returns-clause-formed
returns-clause-formed c = declared_formed c.self.inside.declarations c.args.class.index _ c.self.invariant.formed c.tree.ensures
