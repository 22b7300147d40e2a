-- What is kept of the files: their declared classes and scopes.
use Rattle.std.specs.Prelude.{◌<◌, ◌+◌, ◌^◌, ℕ, Bool, List, [], ◌∷◌, length}
use Rattle.cdl_tree.specs.declared.class.FileTree.{FileTree}
use Rattle.cdl_scopes.specs.declared.gather.Classes.{Classes}
use Rattle.cdl_scopes.specs.declared.scopes.Outwards.{Outwards}
use Rattle.cdl_scopes.specs.Classes.{Declared, declared}
use Rattle.cdl_scopes.specs.Lookup.{library, member_names}
use Rattle.cdl_scopes.specs.inner.Gathered.{IsGathered}
use Rattle.cdl_scopes.specs.inner.Outwards.{AreInLibrary, AreOutwards}

-- the declared names: each class, and the names in it
abbrev pub names_in : Declared → ℕ
names_in d = 1 + length (member_names d.tree)

abbrev pub names_of : List Declared → ℕ
names_of [] = 0
names_of (d ∷ ds) = names_in d + names_of ds

abbrev pub name_count : List FileTree → ℕ
name_count files = names_of (declared files)

-- the declared classes of these files are kept, with their scopes, and their names can be counted
pub record AreKept (files : List FileTree) (all : Classes) (os : List Outwards) (flags : List Bool) : Type 0 where
  pub gathered : IsGathered files all library (declared files)
  pub outwards : AreOutwards files all os
  pub library : AreInLibrary files all flags
  pub few : name_count files < 2 ^ 32
