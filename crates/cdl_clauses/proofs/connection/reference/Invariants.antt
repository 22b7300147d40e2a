use Rattle.cdl_clauses.specs.Declarations.{part}
use Rattle.cdl_clauses.proofs.connection.reference.Given as goal

abbrev pub ghost-list : goal.ghost-list
ghost-list a = part a.most
