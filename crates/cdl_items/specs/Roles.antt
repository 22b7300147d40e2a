-- What the items of a block are.
use Rattle.std.specs.Prelude.{ℕ, List, [], Option, Some, None, unwrap_or, option_and_then}
use Rattle.cdl_tree.specs.declared.class.Item.{Item}
use Rattle.cdl_tree.specs.declared.class.Prefix.{Prefix}
use Rattle.cdl_tree.specs.declared.class.Prefix.TheVariants as prefix
use Rattle.cdl_scopes.specs.Classes.{Declared}
use Rattle.cdl_classes.specs.declared.found.Found.{Found}
use Rattle.cdl_classes.specs.declared.found.Found.TheVariants as it
use Rattle.cdl_classes.specs.Rules.{class_of}
use Rattle.cdl_classes.specs.Table.{items_at}
use Rattle.cdl_paths.specs.Members.{item_at}
use Rattle.cdl_items.specs.declared.role.Part.TheVariants as part
use Rattle.cdl_items.specs.declared.role.Role.{Role}
use Rattle.cdl_items.specs.declared.role.Role.TheVariants as role

-- the items of the class of this number
abbrev pub items_of : List Declared → ℕ → List Item
items_of ds c = unwrap_or (items_at ds c) []

-- what the class name of an item means
abbrev pub class_at : List Declared → ℕ → ℕ → Option Found
class_at ds c k = option_and_then (class_of ds c) (item_at ds c k)

abbrev pub plain_role : Option Found → Role
plain_role None = role.Other
plain_role (Some (it.Class c)) = role.Component (part.Block c)
plain_role (Some (it.Kind k)) = role.Component (part.Kind k)
plain_role (Some (it.Connector t input)) = role.Connector t input
plain_role (Some (it.Scalar t)) = role.Other
plain_role (Some it.Package) = role.Other
plain_role (Some it.Unsupported) = role.Other

-- a parameter or constant has a value, whatever its class; of the others the class says what they are
abbrev pub role_by : Prefix → Option Found → Role
role_by prefix.Parameter f = role.Value
role_by prefix.Constant f = role.Value
role_by prefix.Plain f = plain_role f

abbrev pub role_of : List Declared → ℕ → ℕ → Item → Role
role_of ds c k item = role_by item.prefix (class_at ds c k)
