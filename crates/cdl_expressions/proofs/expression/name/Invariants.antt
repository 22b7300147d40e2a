use Rattle.cdl_reading.specs.Reading.{ident}
use Rattle.cdl_expressions.proofs.expression.name.Given as goal

abbrev pub ghost-list : goal.ghost-list
ghost-list a = ident
