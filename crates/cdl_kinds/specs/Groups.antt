-- The ports of the kinds by their names.
use Rattle.cdl_kinds.specs.declared.ports.Group.{Group as DeclaredGroup}
use Rattle.cdl_kinds.specs.Table.{Group}

abbrev pub group_row : DeclaredGroup → Group
group_row g = record { name = g.name.now; value_type = g.value_type; many = g.many }
