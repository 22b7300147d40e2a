-- What the table of declared classes answers.
use Rattle.std.specs.Prelude.{◌≡◌, ◌+◌, ℕ, List, map, Option, Some, None, slice_get, option_and_then, option_map}
use Rattle.cdl_scopes.specs.declared.in_scope.Scope.{Scope}
use Rattle.cdl_scopes.specs.declared.in_scope.Scope.TheVariants as scope
use Rattle.cdl_scopes.specs.declared.table.Meaning.{Meaning}
use Rattle.cdl_scopes.specs.declared.table.Meaning.TheVariants as meant
use Rattle.cdl_scopes.specs.Classes.{Full, Declared, full, text_of}
use Rattle.cdl_scopes.specs.Lookup.{Entity, a_class, a_package, in_cdl, in_modelica, a_type, a_constant, a_literal, first_named, member_names}

-- the full name of a scope: of the package around a class, or of the class
abbrev pub scope_name : List Declared → Scope → Option Full
scope_name ds (scope.Around i) = option_map (λ (d : Declared). d.outer) (slice_get ds i)
scope_name ds (scope.Of i) = option_map full (slice_get ds i)

-- the number of the first member of this name in the class of this number
abbrev pub member_of : List Declared → ℕ → List ℕ → Option ℕ
member_of ds i x = option_and_then (λ (d : Declared). first_named x (member_names d.tree)) (slice_get ds i)

-- what is told of an entity: all of it but the name of a package, and a literal's number from 1 on
abbrev pub Tells : Meaning → Entity → Type 0
Tells (meant.Class i) e = e ≡ a_class i
Tells meant.Package e = (q : Full) × (e ≡ a_package q)
Tells (meant.Cdl below) e = e ≡ in_cdl (map text_of below.now)
Tells (meant.Modelica below) e = e ≡ in_modelica (map text_of below.now)
Tells (meant.Type t) e = e ≡ a_type t
Tells (meant.Constant p i) e = e ≡ a_constant p i
Tells (meant.Literal c n) e = (k : ℕ) × (n ≡ k + 1) × (e ≡ a_literal c k)
