-- What contracts see of ends.
use Rattle.std.specs.Prelude.{option_map}
use Rattle.cdl_kinds.specs.Groups.{group_row}
use Rattle.cdl_joins.specs.declared.ends.Component.{Component as DeclaredComponent}
use Rattle.cdl_joins.specs.declared.ends.Connector.{Connector as DeclaredConnector}
use Rattle.cdl_joins.specs.declared.ends.Connector.TheVariants as connector
use Rattle.cdl_joins.specs.declared.ends.End.{End as DeclaredEnd}
use Rattle.cdl_joins.specs.declared.ends.Member.{Member as DeclaredMember}
use Rattle.cdl_joins.specs.Ends.{Connector, OfBlock, OfKind, Component, End, Member}

abbrev pub connector_seen : DeclaredConnector → Connector
connector_seen (connector.OfBlock item) = OfBlock item.now
connector_seen (connector.OfKind k g) = OfKind k (group_row g)

abbrev pub component_seen : DeclaredComponent → Component
component_seen c = record { item = c.item.now; subs = c.subs.now }

abbrev pub end_seen : DeclaredEnd → End
end_seen e = record { component = option_map component_seen e.component; connector = connector_seen e.connector; subs = e.subs.now }

abbrev pub member_seen : DeclaredMember → Member
member_seen m = record { item = m.item.now; role = m.role }
