use Rattle.cdl_reading.specs.Reading.{ident}
use Rattle.cdl_expressions.proofs.expression.parts.Given as goal

abbrev pub ghost-list_behind : goal.ghost-list_behind
ghost-list_behind a = ident
