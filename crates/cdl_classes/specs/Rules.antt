-- The rules on classes: the places at which each of them is broken.
use Rattle.std.specs.Prelude.{◌+◌, ◌<◌, ℕ, Bool, true, false, not, ◌&&◌, ◌||◌, nat_le, List, [], ◌∷◌, ◌++◌, map, length, if◌then◌else◌, Option, Some, None, is_some, slice_get, option_and_then}
use Rattle.std.specs.List.{list_any, list_all, filter}
use Rattle.std.specs.Str.{bytes_eq}
use Rattle.cdl_source.specs.declared.place.Place.{Place}
use Rattle.cdl_tree.specs.declared.name.Ident.{Ident}
use Rattle.cdl_tree.specs.declared.expr.Expr.{Expr}
use Rattle.cdl_tree.specs.declared.class.Prefix.{Prefix}
use Rattle.cdl_tree.specs.declared.class.Prefix.TheVariants as prefix
use Rattle.cdl_tree.specs.declared.class.Dim.{Dim}
use Rattle.cdl_tree.specs.declared.class.Dim.TheVariants as dim
use Rattle.cdl_tree.specs.declared.class.Item.{Item}
use Rattle.cdl_tree.specs.Parts.{class_name, items_of, literals_of}
use Rattle.cdl_classes.specs.declared.found.Found.{Found}
use Rattle.cdl_classes.specs.declared.found.Found.TheVariants as it
use Rattle.cdl_scopes.specs.declared.lookup.ClassSort.{ClassSort}
use Rattle.cdl_scopes.specs.declared.lookup.ClassSort.TheVariants as sort
use Rattle.cdl_scopes.specs.declared.lookup.Sought.TheVariants.{Class}
use Rattle.cdl_scopes.specs.Classes.{Full, Declared, parts_of, full, same_full}
use Rattle.cdl_scopes.specs.Lookup.{is_needed, in_library, scalar_named, sort_of, meaning}
use Rattle.cdl_classes.specs.Found.{found_of}
use Rattle.cdl_classes.specs.Places.{latest}

abbrev pub place : ℕ → Ident → Place
place file i = record { file = file; byte = i.span.start }

abbrev pub name_ident : Item → Ident
name_ident x = x.name

-- ---- C10: a name declared twice

-- a declared class or constant with its full name
pub record Named : Type 0 where
  pub full : Full
  pub at : Place

abbrev pub constant_named : Declared → Item → Named
constant_named d x = record { full = full d ++ x.name.text ∷ []; at = place d.file x.name }

abbrev pub constants_of : Declared → ClassSort → List Item
constants_of d sort.Block = []
constants_of d sort.Package = items_of d.tree
constants_of d sort.Enumeration = []

abbrev pub named_in : Declared → List Named
named_in d = (record { full = full d; at = place d.file (class_name d.tree) }) ∷ map (constant_named d) (constants_of d (sort_of d.tree))

abbrev pub named_of : List Declared → List Named
named_of [] = []
named_of (d ∷ ds) = named_in d ++ named_of ds

-- of each two of one full name, the place of the later one
abbrev pub later_of : Place → Named → Place
later_of p n = latest n.at p

abbrev pub with_name : Full → Named → Bool
with_name q n = same_full q n.full

abbrev pub twice_from : List Named → List Named → List Place
twice_from before [] = []
twice_from before (n ∷ ns) = map (later_of n.at) (filter (with_name n.full) before) ++ twice_from (before ++ n ∷ []) ns

-- the items of a block and the literals of an enumeration
abbrev pub own_names : Declared → ClassSort → List Ident
own_names d sort.Block = map name_ident (items_of d.tree)
own_names d sort.Package = []
own_names d sort.Enumeration = literals_of d.tree

-- each that has the name of an earlier one
abbrev pub again_from : ℕ → List (List ℕ) → List Ident → List Place
again_from file before [] = []
again_from file before (i ∷ is) =
    (if list_any (bytes_eq i.text) before then place file i ∷ [] else []) ++ again_from file (before ++ i.text ∷ []) is

abbrev pub again_in : Declared → List Place
again_in d = again_from d.file [] (own_names d (sort_of d.tree))

abbrev pub again_of : List Declared → List Place
again_of [] = []
again_of (d ∷ ds) = again_in d ++ again_of ds

abbrev pub broken_10 : List Declared → List Place
broken_10 ds = twice_from [] (named_of ds) ++ again_of ds

-- ---- C11: a name that is not free

abbrev pub is_type : List ℕ → Bool
is_type x = is_some (scalar_named x)

-- a declared full name that may not be: of a package, or of a block, an enumeration or a constant
abbrev pub is_taken : List Declared → Bool → Full → List ℕ → Bool
is_taken ds is_package q x = in_library (q ++ x ∷ []) || ((not is_package && is_needed ds (q ++ x ∷ [])) || is_type x)

abbrev pub is_package : ClassSort → Bool
is_package sort.Block = false
is_package sort.Package = true
is_package sort.Enumeration = false

abbrev pub if_broken : Bool → Place → List Place
if_broken b p = if b then p ∷ [] else []

abbrev pub taken_constants : List Declared → ℕ → Full → List Item → List Place
taken_constants ds file q [] = []
taken_constants ds file q (x ∷ xs) = if_broken (is_taken ds false q x.name.text) (place file x.name) ++ taken_constants ds file q xs

abbrev pub type_names : ℕ → List Ident → List Place
type_names file [] = []
type_names file (i ∷ is) = if_broken (is_type i.text) (place file i) ++ type_names file is

abbrev pub taken_in : List Declared → Declared → List Place
taken_in ds d =
    if_broken (is_taken ds (is_package (sort_of d.tree)) d.outer (class_name d.tree).text) (place d.file (class_name d.tree))
    ++ (taken_constants ds d.file (full d) (constants_of d (sort_of d.tree)) ++ type_names d.file (own_names d (sort_of d.tree)))

abbrev pub taken_of : List Declared → List Declared → List Place
taken_of whole [] = []
taken_of whole (d ∷ ds) = taken_in whole d ++ taken_of whole ds

abbrev pub broken_11 : List Declared → List Place
broken_11 ds = taken_of ds ds

-- ---- C12: a class name that is not found; C13: one that is not supported

-- the first byte of a name
abbrev pub start_of : List Ident → ℕ
start_of [] = 0
start_of (i ∷ is) = i.span.start

abbrev pub class_place : ℕ → Item → Place
class_place file x = record { file = file; byte = start_of x.class.parts }

-- what the class name of an item of this class means
abbrev pub class_of : List Declared → ℕ → Item → Option Found
class_of ds number x = option_and_then found_of (meaning ds Class number (parts_of x.class))

abbrev pub is_none : Option Found → Bool
is_none None = true
is_none (Some f) = false

abbrev pub is_missing : List Declared → ℕ → Item → Bool
is_missing ds number x = is_none (class_of ds number x)

-- the places of the items for which a test holds
abbrev pub places_in : (ℕ → Item → Bool) → ℕ → ℕ → List Item → List Place
places_in test number file [] = []
places_in test number file (x ∷ xs) = if_broken (test number x) (class_place file x) ++ places_in test number file xs

abbrev pub places_from : (ℕ → Item → Bool) → ℕ → List Declared → List Place
places_from test number [] = []
places_from test number (d ∷ ds) = places_in test number d.file (items_of d.tree) ++ places_from test (number + 1) ds

abbrev pub is_sort : ClassSort → ClassSort → Bool
is_sort sort.Block sort.Block = true
is_sort sort.Package sort.Package = true
is_sort sort.Enumeration sort.Enumeration = true
is_sort _ _ = false

abbrev pub option_test : {A : Type 0} → (A → Bool) → Option A → Bool
option_test t None = false
option_test t (Some x) = t x

abbrev pub class_sort : (ClassSort → Bool) → List Declared → ℕ → Bool
class_sort test ds i = option_test (λ (d : Declared). test (sort_of d.tree)) (slice_get ds i)

-- a type of a parameter or constant: a scalar or a declared enumeration
abbrev pub is_value_type : List Declared → Option Found → Bool
is_value_type ds None = false
is_value_type ds (Some (it.Class c)) = class_sort (is_sort sort.Enumeration) ds c.index
is_value_type ds (Some (it.Kind k)) = false
is_value_type ds (Some (it.Connector t i)) = false
is_value_type ds (Some (it.Scalar t)) = true
is_value_type ds (Some it.Package) = false
is_value_type ds (Some it.Unsupported) = false

-- what a component or a connector may be of: a declared block, a kind or a connector of the library
abbrev pub is_component_type : List Declared → Option Found → Bool
is_component_type ds None = false
is_component_type ds (Some (it.Class c)) = class_sort (is_sort sort.Block) ds c.index
is_component_type ds (Some (it.Kind k)) = true
is_component_type ds (Some (it.Connector t i)) = true
is_component_type ds (Some (it.Scalar t)) = false
is_component_type ds (Some it.Package) = false
is_component_type ds (Some it.Unsupported) = false

abbrev pub is_sized : Dim → Bool
is_sized dim.Any = false
is_sized (dim.Size e) = true

abbrev pub no_expr : Option Expr → Bool
no_expr None = true
no_expr (Some e) = false

-- an item whose class is of its sort, with a form that is supported
abbrev pub is_supported : List Declared → Prefix → Item → Option Found → Bool
is_supported ds prefix.Plain x f = is_component_type ds f && (no_expr x.value && list_all is_sized x.dims)
is_supported ds prefix.Parameter x f = is_value_type ds f && no_expr x.condition
is_supported ds prefix.Constant x f = is_value_type ds f && no_expr x.condition

abbrev pub is_unsupported : List Declared → ℕ → Item → Bool
is_unsupported ds number x = not (is_supported ds x.prefix x (class_of ds number x) && nat_le (length x.dims) 2)

abbrev pub broken_12 : List Declared → List Place
broken_12 ds = places_from (is_missing ds) 0 ds

abbrev pub broken_13 : List Declared → List Place
broken_13 ds = places_from (is_unsupported ds) 0 ds

-- a class that is found is one of these
abbrev pub IsKnown : List Declared → Option Found → Type 0
IsKnown ds (Some (it.Class c)) = c.index < length ds
IsKnown ds _ = Unit {0}
