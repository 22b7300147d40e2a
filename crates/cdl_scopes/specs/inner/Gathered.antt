-- What is kept of the declared classes.
use Rattle.std.specs.Prelude.{◌≡◌, ◌≤◌, ℕ, true, List, [], ◌∷◌, ◌++◌, map, Option, Some, None, length, nat_eq, slice_get, option_and_then}
use Rattle.std.specs.List.{AllZip, list_all}
use Rattle.indexmap.specs.IndexMap.{get}
use Rattle.cdl_tree.specs.declared.class.ClassTree.{ClassTree}
use Rattle.cdl_tree.specs.declared.class.FileTree.{FileTree}
use Rattle.cdl_tree.specs.Parts.{classes_of}
use Rattle.cdl_scopes.specs.declared.gather.Class.{Class}
use Rattle.cdl_scopes.specs.declared.gather.Classes.{Classes}
use Rattle.cdl_scopes.specs.Classes.{Full, Declared, full, is_front}
use Rattle.cdl_scopes.specs.Lookup.{first_of, first_named, member_names, cdl_name, modelica_name, library}
use Rattle.cdl_scopes.specs.Entries.{entry}
use Rattle.cdl_scopes.specs.inner.Numbered.{Names, Keeps}

-- the class at these places in this one
abbrev pub descend : ClassTree → List ℕ → Option ClassTree
descend c [] = Some c
descend c (k ∷ steps) = option_and_then (λ d. descend d steps) (slice_get (classes_of c) k)

abbrev pub tree_at : List FileTree → ℕ → ℕ → List ℕ → Option ClassTree
tree_at files file top steps = option_and_then (λ (f : FileTree). option_and_then (λ c. descend c steps) (slice_get f.classes top)) (slice_get files file)

-- what is kept of a declared class
pub record IsShown (paths : List Full) (files : List FileTree) (class : Class) (d : Declared) : Type 0 where
  pub file : class.file ≡ d.file
  pub outer : slice_get paths class.outer ≡ Some d.outer
  pub name : slice_get paths class.name ≡ Some (full d)
  pub tree : tree_at files class.file class.top class.steps.items ≡ Some d.tree
  pub members : (x : List ℕ) → entry class.members x ≡ first_named x (member_names d.tree)

-- what is kept of these declared classes; their names and the extra ones have numbers
pub record IsGathered (files : List FileTree) (all : Classes) (extra : List Full) (ds : List Declared) : Type 0 where
  pub names : Names all.nodes.items (extra ++ map full ds)
  pub shown : AllZip (IsShown names.paths files) all.list.items ds
  pub cdl : slice_get names.paths all.cdl ≡ Some cdl_name
  pub modelica : slice_get names.paths all.modelica ≡ Some modelica_name
  pub first : (n : ℕ) (q : Full) → slice_get names.paths n ≡ Some q → get nat_eq all.by_name n ≡ first_of q ds
  pub within : (n : ℕ) → length all.nodes.items ≤ n → get nat_eq all.by_name n ≡ None

-- the same, where each number keeps its name
pub record After (files : List FileTree) (old : List Full) (all : Classes) (extra : List Full) (ds : List Declared) : Type 0 where
  pub gathered : IsGathered files all extra ds
  pub keeps : Keeps old gathered.names.paths

pub record AfterAt (files : List FileTree) (old : List Full) (all : Classes) (extra : List Full) (ds : List Declared) (n : ℕ) (q : Full) : Type 0 where
  pub after : After files old all extra ds
  pub at : slice_get after.gathered.names.paths n ≡ Some q

-- the classes of a file so far: the fronts of the package behind `within` have numbers too
pub record FileSoFar (files : List FileTree) (old : List Full) (all : Classes) (ds es : List Declared) (outer : ℕ) (w : Full) : Type 0 where
  pub more : List Full
  pub fronts : list_all (λ p. is_front p w) more ≡ true
  pub after : After files old all (library ++ more) (ds ++ es)
  pub at : slice_get after.gathered.names.paths outer ≡ Some w
