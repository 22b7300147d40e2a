use Rattle.cdl_parse.specs.Classes.{literal_of}
use Rattle.cdl_parse.proofs.class.literals.Given as goal

abbrev pub ghost-list : goal.ghost-list
ghost-list a = literal_of a.most
