-- The items of classes, and what stands at a path.
use Rattle.std.specs.Prelude.{ℕ, Bool, true, false, List, [], ◌∷◌, Option, Some, None, option_map, option_and_then, slice_get}
use Rattle.cdl_tree.specs.declared.class.Item.{Item}
use Rattle.cdl_tree.specs.declared.class.Prefix.{Prefix}
use Rattle.cdl_tree.specs.declared.class.Prefix.TheVariants as prefix
use Rattle.cdl_scopes.specs.Classes.{Declared}
use Rattle.cdl_classes.specs.declared.found.Found.{Found}
use Rattle.cdl_classes.specs.declared.found.Found.TheVariants as it
use Rattle.cdl_classes.specs.Rules.{class_of}
use Rattle.cdl_classes.specs.Table.{item_of, items_at}
use Rattle.cdl_paths.specs.declared.path.Step.{Step}

-- an item of a class, and what its class name means
pub record Declaration : Type 0 where
  pub item : Item
  pub class : Found

abbrev pub declaration : Item → Found → Declaration
declaration x f = record { item = x; class = f }

-- the item of this number in the class of this number
abbrev pub item_at : List Declared → ℕ → ℕ → Option Item
item_at ds c k = option_and_then (λ items. slice_get items k) (items_at ds c)

abbrev pub declaration_at : List Declared → ℕ → ℕ → Option Declaration
declaration_at ds c k = option_and_then (λ x. option_map (declaration x) (class_of ds c x)) (item_at ds c k)

-- the first item of this name in the class of this number
abbrev pub member : List Declared → ℕ → List ℕ → Option Declaration
member ds c name = option_and_then (declaration_at ds c) (item_of ds c name)

-- the item of this name in what a class name means, where that is a declared class
abbrev pub inside : List Declared → Found → List ℕ → Option Declaration
inside ds (it.Class c) name = member ds c.index name
inside ds _ name = None

-- what stands behind these steps
abbrev pub site : List Declared → Found → List Step → Option Found
site ds f [] = Some f
site ds f (s ∷ rest) = option_and_then (λ m. site ds m.class rest) (inside ds f s.name)

-- a parameter or a constant
abbrev pub has_value : Prefix → Bool
has_value prefix.Plain = false
has_value prefix.Parameter = true
has_value prefix.Constant = true

abbrev pub is_parameter : Item → Bool
is_parameter x = has_value x.prefix
