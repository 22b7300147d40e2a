-- The rows that the code declares.
use Rattle.std.specs.Prelude.{map}
use Rattle.cdl_kinds.specs.declared.ports.Group.{Group as DeclaredGroup}
use Rattle.cdl_kinds.specs.declared.table.Row.{Row as DeclaredRow}
use Rattle.cdl_kinds.specs.Parameters.{parameter_row}
use Rattle.cdl_kinds.specs.Table.{Group, Row}

abbrev pub group_of : DeclaredGroup → Group
group_of g = record { name = g.name.now; value_type = g.value_type; many = g.many }

abbrev pub row_of : DeclaredRow → Row
row_of r = record {
  name = r.name.now;
  parameters = map parameter_row r.parameters.now;
  conditions = r.conditions.now;
  ins = map group_of r.ins.now;
  outs = map group_of r.outs.now;
  direct = r.direct;
  state = r.state;
}
