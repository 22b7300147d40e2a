-- The first place of each full name so far.
use Rattle.std.specs.Prelude.{◌≡◌, ℕ, List, [], ◌∷◌, ◌++◌, length, if◌then◌else◌, Option, Some, None, Vec, slice_get}
use Rattle.std.specs.declared.alloc.Global.{Global}
use Rattle.std.specs.BTreeMap.{BTreeMap}
use Rattle.cdl_source.specs.declared.place.Place.{Place}
use Rattle.cdl_scopes.specs.Classes.{Full, Declared, same_full}
use Rattle.cdl_scopes.specs.Entries.{entry}
use Rattle.cdl_scopes.specs.Lookup.{first_of}
use Rattle.cdl_classes.specs.Places.{sooner, latest}
use Rattle.cdl_classes.specs.Rules.{Named}

-- the first place of this full name among these, where one is known already
abbrev pub mark_from : Full → Option Place → List Named → Option Place
mark_from q first [] = first
mark_from q first (n ∷ ns) = mark_from q (if same_full q n.full then sooner first n.at else first) ns

-- the first places are known: of a name that a class has, and of any other in a package
pub record Marks (ds : List Declared) (classes : List (Option Place)) (constants : List (BTreeMap (Vec ℕ Global) Place)) (ns : List Named) : Type 0 where
  pub many : length classes ≡ length ds
  pub size : length constants ≡ length ds
  pub of_class : (i : ℕ) (q : Full) → first_of q ds ≡ Some i → slice_get classes i ≡ Some (mark_from q None ns)
  pub of_constant : (i : ℕ) (m : BTreeMap (Vec ℕ Global) Place) (q : Full) (x : List ℕ) → first_of q ds ≡ Some i → first_of (q ++ x ∷ []) ds ≡ None
      → slice_get constants i ≡ Some m → entry m x ≡ mark_from (q ++ x ∷ []) None ns

-- with a further place of a name whose first place is known
abbrev pub and_later : Option Place → Option Place → Place → Option Place
and_later first None p = first
and_later first (Some known) p = sooner first (latest known p)
