-- The parameters of the kinds.
use Rattle.std.specs.Prelude.{List}
use Rattle.cdl_kinds.specs.declared.kind.Kind.{Kind}
use Rattle.cdl_kinds.specs.declared.parameter.Parameter.{Parameter}
use Rattle.cdl_kinds.specs.Table.{ParameterRow, row}

abbrev pub parameter_row : Parameter → ParameterRow
parameter_row p = record { name = p.name.now; value_type = p.value_type; per_nin = p.per_nin; preset = p.preset }

-- the parameters of a kind, in the table's order
abbrev pub parameters : Kind → List ParameterRow
parameters k = (row k).parameters
