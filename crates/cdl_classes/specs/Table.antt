-- What a table of the declared classes of files answers.
use Rattle.std.specs.Prelude.{◌≡◌, ◌<◌, ◌≤◌, ℕ, List, map, Option, Some, None, length, slice_get, option_and_then, option_map}
use Rattle.cdl_tree.specs.declared.class.Item.{Item}
use Rattle.cdl_tree.specs.Parts.{items_of, literals_of}
use Rattle.cdl_classes.specs.declared.found.ClassId.{ClassId}
use Rattle.cdl_classes.specs.declared.found.ValueFound.{ValueFound}
use Rattle.cdl_classes.specs.declared.found.ValueFound.TheVariants as value
use Rattle.cdl_scopes.specs.declared.lookup.ClassSort.{ClassSort}
use Rattle.cdl_scopes.specs.declared.lookup.ClassSort.TheVariants as sort
use Rattle.cdl_scopes.specs.Classes.{Full, Declared}
use Rattle.cdl_scopes.specs.Lookup.{first_of, first_named, item_name, sort_of}

abbrev pub if_block : ℕ → ClassSort → Option ClassId
if_block i sort.Block = Some (record { index = i })
if_block i sort.Package = None
if_block i sort.Enumeration = None

-- the declared block of this full name
abbrev pub block_of : List Declared → Full → Option ClassId
block_of ds q = option_and_then (λ i. option_and_then (λ (d : Declared). if_block i (sort_of d.tree)) (slice_get ds i)) (first_of q ds)

-- the declared class of this number is of this sort
pub record IsOf (ds : List Declared) (s : ClassSort) (c : ClassId) : Type 0 where
  pub declared : Declared
  pub at : slice_get ds c.index ≡ Some declared
  pub sort : sort_of declared.tree ≡ s

-- a constant is one of those of its package, and a literal one of those of its enumeration
abbrev pub IsValue : List Declared → ValueFound → Type 0
IsValue ds (value.Constant c i) = (d : IsOf ds sort.Package c) × (i < length (items_of d.declared.tree))
IsValue ds (value.Literal c k) = (d : IsOf ds sort.Enumeration c) × (1 ≤ k) × (k ≤ length (literals_of d.declared.tree))

-- the items of the class of this number
abbrev pub items_at : List Declared → ℕ → Option (List Item)
items_at ds i = option_map (λ (d : Declared). items_of d.tree) (slice_get ds i)

-- the number of the first item of this name
abbrev pub item_of : List Declared → ℕ → List ℕ → Option ℕ
item_of ds i name = option_and_then (λ items. first_named name (map item_name items)) (items_at ds i)
