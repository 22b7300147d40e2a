use Rattle.cdl_clauses.specs.Declarations.{dim_of}
use Rattle.cdl_clauses.proofs.declaration.dim_list.Given as goal

abbrev pub ghost-list : goal.ghost-list
ghost-list a = dim_of a.most
