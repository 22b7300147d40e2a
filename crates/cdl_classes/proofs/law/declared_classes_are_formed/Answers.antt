use Rattle.cdl_classes.proofs.FormedClasses.{files_formed}
use Rattle.cdl_classes.proofs.law.declared_classes_are_formed.Goals as goal

pub returns : goal.returns
returns c files h = files_formed 0 files h
