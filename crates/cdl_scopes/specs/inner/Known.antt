-- What the numbers of a look-up stand for.
use Rattle.std.specs.Prelude.{◌≡◌, ◌<◌, ◌+◌, ◌^◌, ℕ, false, List, map, Option, Some, None, slice_get, option_map}
use Rattle.cdl_tree.specs.declared.class.FileTree.{FileTree}
use Rattle.cdl_scopes.specs.declared.gather.Classes.{Classes}
use Rattle.cdl_scopes.specs.declared.lookup.Standing.{Standing}
use Rattle.cdl_scopes.specs.declared.lookup.Standing.TheVariants as standing
use Rattle.cdl_scopes.specs.Classes.{Full, declared, text_of, same_full}
use Rattle.cdl_scopes.specs.Lookup.{Entity, a_class, a_package, in_cdl, in_modelica, a_type, a_constant, a_literal, library, cdl_name, modelica_name, in_library, IsFree}
use Rattle.cdl_scopes.specs.inner.Gathered.{IsGathered}

-- the declared classes of these files are kept, and none lies in the library
pub record Known (files : List FileTree) (all : Classes) : Type 0 where
  pub gathered : IsGathered files all library (declared files)
  pub free : IsFree (declared files)

abbrev pub means : List Full → Standing → Option Entity
means paths (standing.Class i) = Some (a_class i)
means paths (standing.Package n) = option_map a_package (slice_get paths n)
means paths (standing.Cdl rest) = Some (in_cdl (map text_of rest.now))
means paths (standing.Modelica rest) = Some (in_modelica (map text_of rest.now))
means paths (standing.Type t) = Some (a_type t)
means paths (standing.Constant p i) = Some (a_constant p i)
means paths (standing.Literal c o) = Some (a_literal c o)

-- a look-up finds this
abbrev pub Finds : List Full → Option Standing → Option Entity → Type 0
Finds paths None e = e ≡ None
Finds paths (Some s) e = (f : Entity) × (means paths s ≡ Some f) × (e ≡ Some f)

-- a scope has a number
pub record Scoped (files : List FileTree) (all : Classes) (scope : ℕ) : Type 0 where
  pub known : Known files all
  pub name : Full
  pub at : slice_get known.gathered.names.paths scope ≡ Some name
  pub own : in_library name ≡ false

-- it is no name below a package of the library
abbrev pub IsOver : Standing → Type 0
IsOver (standing.Class i) = Unit {0}
IsOver (standing.Package n) = Unit {0}
IsOver (standing.Cdl rest) = ⊥
IsOver (standing.Modelica rest) = ⊥
IsOver (standing.Type t) = Unit {0}
IsOver (standing.Constant p i) = Unit {0}
IsOver (standing.Literal c o) = Unit {0}

-- it is no package of the library, nor below one
abbrev pub IsOwn : Entity → Type 0
IsOwn (a_class i) = Unit {0}
IsOwn (a_package q) = (same_full q cdl_name ≡ false) × (same_full q modelica_name ≡ false)
IsOwn (in_cdl q) = ⊥
IsOwn (in_modelica q) = ⊥
IsOwn (a_type t) = Unit {0}
IsOwn (a_constant p i) = Unit {0}
IsOwn (a_literal c o) = Unit {0}

-- its numbers fit
abbrev pub IsSmall : Standing → Type 0
IsSmall (standing.Class i) = i < 2 ^ 32
IsSmall (standing.Package n) = Unit {0}
IsSmall (standing.Cdl rest) = Unit {0}
IsSmall (standing.Modelica rest) = Unit {0}
IsSmall (standing.Type t) = Unit {0}
IsSmall (standing.Constant p i) = (p < 2 ^ 32) × (i < 2 ^ 32)
IsSmall (standing.Literal c k) = (c < 2 ^ 32) × (k + 1 < 2 ^ 32)
