-- What a name refers to in an expression.
use Rattle.std.specs.Prelude.{ℕ, ℤ, cond, List, [], ◌∷◌, Option, Some, None, is_some, option_and_then, slice_get}
use Rattle.std.specs.Option.{option_or}
use Rattle.std.specs.Str.{bytes_eq}
use Rattle.cdl_tree.specs.declared.class.Item.{Item}
use Rattle.cdl_scopes.specs.declared.lookup.ClassSort.{ClassSort}
use Rattle.cdl_scopes.specs.declared.lookup.ClassSort.TheVariants as sort
use Rattle.cdl_scopes.specs.declared.lookup.Sought.TheVariants as sought
use Rattle.cdl_scopes.specs.Classes.{Full, Declared}
use Rattle.cdl_scopes.specs.Lookup.{meaning, sort_of}
use Rattle.cdl_classes.specs.declared.found.ValueFound.{ValueFound}
use Rattle.cdl_classes.specs.declared.found.ValueFound.TheVariants as value
use Rattle.cdl_classes.specs.Found.{value_of}
use Rattle.cdl_paths.specs.declared.path.Local.{Local}
use Rattle.cdl_paths.specs.declared.reference.Reference.{Reference}
use Rattle.cdl_paths.specs.declared.reference.Reference.TheVariants as reference
use Rattle.cdl_paths.specs.Members.{Declaration, member, is_parameter}

-- what the last local of this name is worth
abbrev pub last_local : List ℕ → List Local → Option ℤ
last_local name [] = None
last_local name (l ∷ ls) = option_or (last_local name ls) (cond (bytes_eq l.name name) (Some l.value) None)

-- the item of this name beside the expression: only blocks have names of their own, those of a package are looked up
abbrev pub beside : List Declared → ℕ → List ℕ → ClassSort → Option Declaration
beside ds c name sort.Block = member ds c name
beside ds c name sort.Package = None
beside ds c name sort.Enumeration = None

abbrev pub own_item : List Declared → ℕ → List ℕ → Option Declaration
own_item ds c name = option_and_then (λ (d : Declared). beside ds c name (sort_of d.tree)) (slice_get ds c)

-- a value name that is looked up
abbrev pub found_value : Option ValueFound → Reference
found_value None = reference.Unknown
found_value (Some (value.Constant p i)) = reference.Constant p i
found_value (Some (value.Literal c o)) = reference.Literal c o

abbrev pub looked_up : List Declared → ℕ → Full → Reference
looked_up ds c name = found_value (option_and_then value_of (meaning ds sought.Value c name))

-- a parameter or constant of the class itself; its components and connectors have no value
abbrev pub own_reference : Item → Reference
own_reference x = cond (is_parameter x) reference.Own reference.Unknown

abbrev pub own_value : Option Declaration → Reference → Reference
own_value None other = other
own_value (Some m) other = own_reference m.item

-- a local counts before what is declared
abbrev pub local_or : Option ℤ → Reference → Reference
local_or None other = other
local_or (Some z) other = reference.Local z

-- What a name refers to in the class of this number, with these locals: a local, a parameter or constant of the class, or a value that
-- is looked up. A dotted name whose first identifier is a local or an item of the class refers to nothing.
abbrev pub refers : List Declared → ℕ → List Local → Full → Reference
refers ds c locals [] = reference.Unknown
refers ds c locals (x ∷ []) = local_or (last_local x locals) (own_value (own_item ds c x) (looked_up ds c (x ∷ [])))
refers ds c locals (x ∷ y ∷ rest) = cond (is_some (last_local x locals)) reference.Unknown (cond (is_some (own_item ds c x)) reference.Unknown (looked_up ds c (x ∷ y ∷ rest)))
