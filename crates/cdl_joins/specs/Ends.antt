-- What the ends of connect statements name.
use Rattle.std.specs.Prelude.{ℕ, List, [], ◌∷◌, Option, Some, None, option_map, option_and_then}
use Rattle.std.specs.Option.{option_or}
use Rattle.cdl_kinds.specs.declared.kind.Kind.{Kind}
use Rattle.cdl_kinds.specs.Table.{Group, row}
use Rattle.cdl_tree.specs.declared.class.Item.{Item}
use Rattle.cdl_tree.specs.declared.class.Part.{Part as Name}
use Rattle.cdl_tree.specs.declared.class.Sub.{Sub}
use Rattle.cdl_scopes.specs.Classes.{Declared}
use Rattle.cdl_scopes.specs.Lookup.{item_name}
use Rattle.cdl_classes.specs.declared.found.ClassId.{ClassId}
use Rattle.cdl_classes.specs.Table.{item_of}
use Rattle.cdl_paths.specs.Members.{item_at}
use Rattle.cdl_worth.specs.Units.{group_named}
use Rattle.cdl_items.specs.declared.role.Part.{Part}
use Rattle.cdl_items.specs.declared.role.Part.TheVariants as part
use Rattle.cdl_items.specs.declared.role.Role.{Role}
use Rattle.cdl_items.specs.declared.role.Role.TheVariants as role
use Rattle.cdl_items.specs.Roles.{role_of}

-- a connector of a declared block, or the ports of one name of a kind
pub data Connector : Type 0 where
  OfBlock : Item → Connector
  OfKind : Kind → Group → Connector

-- a component and its subscripts
pub record Component : Type 0 where
  pub item : Item
  pub subs : List Sub

abbrev pub connector_name : Connector → List ℕ
connector_name (OfBlock item) = item_name item
connector_name (OfKind k g) = g.name

-- an end of a connect statement: the component that it goes through, where it goes through one; then its connector, and subscripts
pub record End : Type 0 where
  pub component : Option Component
  pub connector : Connector
  pub subs : List Sub

-- an item of a block, and what it is there
pub record Member : Type 0 where
  pub item : Item
  pub role : Role

abbrev pub member_at : List Declared → ClassId → ℕ → Item → Member
member_at ds c k item = record { item = item; role = role_of ds c.index k item }

-- the first item of this name in a block
abbrev pub member_named : List Declared → ClassId → List ℕ → Option Member
member_named ds c x = option_and_then (λ k. option_map (member_at ds c k) (item_at ds c.index k)) (item_of ds c.index x)

abbrev pub connector_of : Item → Role → Option Connector
connector_of item role.Value = None
connector_of item (role.Connector t input) = Some (OfBlock item)
connector_of item (role.Component q) = None
connector_of item role.Other = None

abbrev pub ports_named : Kind → List ℕ → Option Connector
ports_named k x = option_map (OfKind k) (option_or (group_named x (row k).ins) (group_named x (row k).outs))

-- the connector of this name of a declared block or of a kind
abbrev pub connector_named : List Declared → Part → List ℕ → Option Connector
connector_named ds (part.Block c) x = option_and_then (λ (m : Member). connector_of m.item m.role) (member_named ds c x)
connector_named ds (part.Kind k) x = ports_named k x

abbrev pub end_with : Option Component → Name → Connector → End
end_with component y connector = record { component = component; connector = connector; subs = y.subs }

abbrev pub own_end : List Declared → ClassId → Name → Option End
own_end ds c x = option_map (end_with None x) (connector_named ds (part.Block c) x.name.text)

-- a connector of a component
abbrev pub end_through : List Declared → Item → Role → List Sub → Name → Option End
end_through ds item role.Value subs y = None
end_through ds item (role.Connector t input) subs y = None
end_through ds item (role.Component q) subs y = option_map (end_with (Some (record { item = item; subs = subs })) y) (connector_named ds q y.name.text)
end_through ds item role.Other subs y = None

-- An own connector of a block, or a component of it and a connector of that; none where it is neither.
abbrev pub end_of : List Declared → ClassId → List Name → Option End
end_of ds c [] = None
end_of ds c (x ∷ []) = own_end ds c x
end_of ds c (x ∷ y ∷ []) = option_and_then (λ (m : Member). end_through ds m.item m.role x.subs y) (member_named ds c x.name.text)
end_of ds c (x ∷ y ∷ z ∷ more) = None
