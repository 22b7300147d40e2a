use Rattle.cdl_clauses.specs.Declarations.{sub_of}
use Rattle.cdl_clauses.proofs.connection.sub_list.Given as goal

abbrev pub ghost-list : goal.ghost-list
ghost-list a = sub_of a.most
