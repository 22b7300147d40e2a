-- What is kept of the classes of items.
use Rattle.std.specs.Prelude.{◌≡◌, ℕ, Bool, true, List, map, length, Option, Some, Vec, slice_get}
use Rattle.std.specs.List.{list_all}
use Rattle.std.specs.declared.alloc.Global.{Global}
use Rattle.cdl_tree.specs.declared.class.FileTree.{FileTree}
use Rattle.cdl_tree.specs.declared.class.Item.{Item}
use Rattle.cdl_tree.specs.FormedFiles.{formed_file}
use Rattle.cdl_tree.specs.Parts.{items_of}
use Rattle.cdl_classes.specs.declared.found.Found.{Found}
use Rattle.cdl_classes.specs.declared.item_classes.Asked.{Asked}
use Rattle.cdl_classes.specs.declared.item_classes.Asked.TheVariants as asked
use Rattle.cdl_scopes.specs.Classes.{Declared, declared}
use Rattle.cdl_classes.specs.Rules.{class_of, is_missing, is_unsupported}
use Rattle.cdl_classes.specs.Verdict.{IsUnbroken}

-- what the class names of these items of the class of this number mean
abbrev pub classes_of : List Declared → ℕ → List Item → List (Option Found)
classes_of ds number items = map (class_of ds number) items

-- these are what the class names of the items mean, class by class
pub record AreItemClasses (ds : List Declared) (rows : List (Vec (Option Found) Global)) : Type 0 where
  pub size : length rows ≡ length ds
  pub each : (i : ℕ) (d : Declared) (row : Vec (Option Found) Global) → slice_get ds i ≡ Some d → slice_get rows i ≡ Some row → row.items ≡ classes_of ds i (items_of d.tree)

-- what is asked of an item
abbrev pub test_of : Asked → List Declared → ℕ → Item → Bool
test_of asked.Found = is_missing
test_of asked.Supported = is_unsupported

-- what a table keeps: the files are formed and keep the rules, and the class of each item is known
pub record IsTable (files : List FileTree) (rows : List (Vec (Option Found) Global)) : Type 0 where
  pub formed : list_all formed_file files ≡ true
  pub unbroken : IsUnbroken (declared files)
  pub classes : AreItemClasses (declared files) rows
