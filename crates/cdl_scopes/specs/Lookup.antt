-- Look-up: what stands at a full name, and what a name means in a class.
use Rattle.std.specs.Prelude.{◌≡◌, ◌+◌, ℕ, zero, suc, Bool, false, not, ◌||◌, ◌&&◌, List, [], ◌∷◌, ◌++◌, map, take, length, codes, if◌then◌else◌, Option, Some, None, slice_get, option_and_then, option_map}
use Rattle.std.specs.List.{list_any}
use Rattle.std.specs.Option.{option_or}
use Rattle.std.specs.Str.{bytes_eq}
use Rattle.cdl_values.specs.declared.value.ValueType.{ValueType}
use Rattle.cdl_values.specs.declared.value.ValueType.TheVariants.{Boolean, Integer, Real, Str}
use Rattle.cdl_tree.specs.declared.class.Item.{Item}
use Rattle.cdl_tree.specs.declared.class.ClassTree.{ClassTree, out-ClassTree}
use Rattle.cdl_tree.specs.declared.class.ClassTree.TheOpen.{ClassTree-F}
use Rattle.cdl_tree.specs.Parts.{items_of, literals_of}
use Rattle.cdl_scopes.specs.declared.lookup.ClassSort.{ClassSort}
use Rattle.cdl_scopes.specs.declared.lookup.ClassSort.TheVariants as sort
use Rattle.cdl_scopes.specs.declared.lookup.Sought.{Sought}
use Rattle.cdl_scopes.specs.declared.lookup.Sought.TheVariants.{Class, Value}
use Rattle.cdl_scopes.specs.Classes.{Full, Declared, text_of, full, is_front, same_full}

abbrev pub item_name : Item → List ℕ
item_name x = x.name.text

-- the names of the items of a block, of the constants of a package, of the literals of an enumeration
abbrev pub member_names : ClassTree → List (List ℕ)
member_names c = map item_name (items_of c) ++ map text_of (literals_of c)

-- the number of the first of these names that is this one
abbrev pub first_named_from : ℕ → List ℕ → List (List ℕ) → Option ℕ
first_named_from i x [] = None
first_named_from i x (y ∷ ys) = if bytes_eq x y then Some i else first_named_from (i + 1) x ys

abbrev pub first_named : List ℕ → List (List ℕ) → Option ℕ
first_named = first_named_from 0

-- the number of the first declared class of this full name
abbrev pub first_from : ℕ → Full → List Declared → Option ℕ
first_from i q [] = None
first_from i q (d ∷ ds) = if same_full q (full d) then Some i else first_from (i + 1) q ds

abbrev pub first_of : Full → List Declared → Option ℕ
first_of = first_from 0

-- the packages of the library
abbrev pub cdl_name : Full
cdl_name = codes "Buildings" ∷ codes "Controls" ∷ codes "OBC" ∷ codes "CDL" ∷ []

abbrev pub modelica_name : Full
modelica_name = codes "Modelica" ∷ []

abbrev pub library : List Full
library = cdl_name ∷ modelica_name ∷ []

-- what a name stands for
pub data Entity : Type 0 where
  a_class : ℕ → Entity  -- the declared class of this number
  a_package : Full → Entity  -- a package that is not declared
  in_cdl : Full → Entity  -- a name of the library, below `Buildings.Controls.OBC.CDL`
  in_modelica : Full → Entity  -- a name of the library, below `Modelica`
  a_type : ValueType → Entity  -- Real, Integer, Boolean or String
  a_constant : ℕ → ℕ → Entity  -- a constant of the package of this number, the constants counted from 0
  a_literal : ℕ → ℕ → Entity  -- a literal of the enumeration of this number, the literals counted from 0

-- a package exists where it is declared and where a full name of a class or the library needs it
abbrev pub exists : List Declared → Full → Bool
exists ds q = list_any (is_front q) (library ++ map full ds)

-- the class or package of this full name; of two classes of one name the first counts
abbrev pub stands : List Declared → Full → Option Entity
stands ds q = option_or (option_map a_class (first_of q ds)) (if exists ds q then Some (a_package q) else None)

-- the class or package of this name in the package of this full name
abbrev pub inside : List Declared → Full → List ℕ → Option Entity
inside ds q x = if same_full q cdl_name then Some (in_cdl (x ∷ [])) else (if same_full q modelica_name then Some (in_modelica (x ∷ [])) else stands ds (q ++ x ∷ []))

abbrev pub sort_at : ClassTree-F ClassTree → ClassSort
sort_at (ClassTree-F.Block name items statements span) = sort.Block
sort_at (ClassTree-F.Package name classes constants span) = sort.Package
sort_at (ClassTree-F.Enumeration name literals span) = sort.Enumeration

unfoldable pub sort_of : ClassTree → ClassSort
sort_of c = sort_at (out-ClassTree c)

-- the constant of this name in the package of this full name
abbrev pub constant_in : ℕ → ClassSort → Option ℕ → Option Entity
constant_in i sort.Block k = None
constant_in i sort.Package k = option_map (a_constant i) k
constant_in i sort.Enumeration k = None

abbrev pub constant_at : List Declared → Full → List ℕ → Option Entity
constant_at ds q x = option_and_then (λ i. option_and_then (λ (d : Declared). constant_in i (sort_of d.tree) (first_named x (member_names d.tree))) (slice_get ds i)) (first_of q ds)

-- a value name sees the constants of a package too
abbrev pub member : List Declared → Sought → Full → List ℕ → Option Entity
member ds Class q x = inside ds q x
member ds Value q x = option_or (constant_at ds q x) (inside ds q x)

abbrev pub scalar_named : List ℕ → Option ValueType
scalar_named x =
    if bytes_eq x (codes "Real") then Some Real
    else (if bytes_eq x (codes "Integer") then Some Integer
    else (if bytes_eq x (codes "Boolean") then Some Boolean
    else (if bytes_eq x (codes "String") then Some Str else None)))

-- the top has the types, too
abbrev pub type_at : Full → List ℕ → Option Entity
type_at [] x = option_map a_type (scalar_named x)
type_at (y ∷ q) x = None

-- what a scope has of this name
abbrev pub has : List Declared → Sought → Full → List ℕ → Option Entity
has ds sought q x = option_or (type_at q x) (member ds sought q x)

-- the first scope outwards that has the name: the scopes are the first k parts of a full name, then the first k - 1, down to the top
abbrev pub seek : List Declared → Sought → Full → ℕ → List ℕ → Option Entity
seek ds sought outer zero x = has ds sought [] x
seek ds sought outer (suc k) x = option_or (has ds sought (take (suc k) outer) x) (seek ds sought outer k x)

-- what is found inside a class
abbrev pub class_enters : List Declared → Sought → ℕ → Declared → ClassSort → List ℕ → Option Entity
class_enters ds sought i d sort.Block x = None
class_enters ds sought i d sort.Package x = member ds sought (full d) x
class_enters ds Class i d sort.Enumeration x = None
class_enters ds Value i d sort.Enumeration x = option_map (a_literal i) (first_named x (member_names d.tree))

abbrev pub enters : List Declared → Sought → Entity → List ℕ → Option Entity
enters ds sought (a_class i) x = option_and_then (λ (d : Declared). class_enters ds sought i d (sort_of d.tree) x) (slice_get ds i)
enters ds sought (a_package q) x = member ds sought q x
enters ds sought (in_cdl q) x = Some (in_cdl (q ++ x ∷ []))
enters ds sought (in_modelica q) x = Some (in_modelica (q ++ x ∷ []))
enters ds sought (a_type t) x = None
enters ds sought (a_constant p i) x = None
enters ds sought (a_literal c o) x = None

-- each further identifier is found inside what was found
abbrev pub leads : List Declared → Sought → Entity → Full → Option Entity
leads ds sought e [] = Some e
leads ds sought e (x ∷ rest) = option_and_then (λ f. leads ds sought f rest) (enters ds sought e x)

-- a name from a class in this package
abbrev pub lookup : List Declared → Sought → Full → Full → Option Entity
lookup ds sought outer [] = None
lookup ds sought outer (x ∷ rest) = option_and_then (λ e. leads ds sought e rest) (seek ds sought outer (length outer) x)

-- no declared class is a library package or lies under one
abbrev pub in_library : Full → Bool
in_library q = is_front cdl_name q || is_front modelica_name q

abbrev pub IsFree : List Declared → Type 0
IsFree ds = list_any (λ d. in_library (full d)) ds ≡ false

-- the scopes of a class: the packages around it, and a package itself
abbrev pub scope_at : Declared → ClassSort → Full
scope_at d sort.Block = d.outer
scope_at d sort.Package = full d
scope_at d sort.Enumeration = d.outer

abbrev pub scope_of : Declared → Full
scope_of d = scope_at d (sort_of d.tree)

-- what a name means in a class of these files, which is found by its number
abbrev pub meaning : List Declared → Sought → ℕ → Full → Option Entity
meaning ds sought number name = option_and_then (λ d. lookup ds sought (scope_of d) name) (slice_get ds number)

-- a package must exist at this full name: the library or a class has it as a front
abbrev pub is_around : Full → Full → Bool
is_around q r = is_front q r && not (same_full q r)

abbrev pub is_needed : List Declared → Full → Bool
is_needed ds q = list_any (is_around q) (library ++ map full ds)
