-- The declared classes of files: blocks, packages and enumerations.
use Rattle.std.specs.Prelude.{ℕ, ◌+◌, Bool, true, false, ◌&&◌, List, [], ◌∷◌, ◌++◌, map, ◌==◌, if◌then◌else◌, Option, Some, None}
use Rattle.std.specs.Str.{bytes_eq}
use Rattle.cdl_tree.specs.declared.name.Ident.{Ident}
use Rattle.cdl_tree.specs.declared.name.Name.{Name}
use Rattle.cdl_tree.specs.declared.class.ClassTree.{ClassTree, fold-ClassTree}
use Rattle.cdl_tree.specs.declared.class.ClassTree.TheOpen.{ClassTree-F}
use Rattle.cdl_tree.specs.declared.class.FileTree.{FileTree}
use Rattle.cdl_tree.specs.Parts.{class_name, classes_of}

-- a full name: identifiers from the top on; the top itself is the empty one
abbrev pub Full : Type 0
Full = List (List ℕ)

-- the first stands at the front of the second
abbrev pub is_front : Full → Full → Bool
is_front [] q = true
is_front (x ∷ p) [] = false
is_front (x ∷ p) (y ∷ q) = bytes_eq x y && is_front p q

abbrev pub same_full : Full → Full → Bool
same_full [] [] = true
same_full [] (y ∷ q) = false
same_full (x ∷ p) [] = false
same_full (x ∷ p) (y ∷ q) = bytes_eq x y && same_full p q

-- a declared class: its file, the package that it is declared in, and the declaration
pub record Declared : Type 0 where
  pub file : ℕ
  pub outer : Full
  pub tree : ClassTree

abbrev pub name_of : ClassTree → List ℕ
name_of c = (class_name c).text

abbrev pub full : Declared → Full
full d = d.outer ++ name_of d.tree ∷ []

abbrev pub text_of : Ident → List ℕ
text_of i = i.text

abbrev pub parts_of : Name → Full
parts_of name = map text_of name.parts

-- the package behind `within`
abbrev pub within_of : Option Name → Full
within_of None = []
within_of (Some name) = parts_of name

-- the declared classes of a class that stands in this package
abbrev pub Listing : Type 0
Listing = ClassTree → Full → List Declared

abbrev pub listings : ClassTree-F Listing → List Listing
listings (ClassTree-F.Block name items statements span) = []
listings (ClassTree-F.Package name classes constants span) = classes
listings (ClassTree-F.Enumeration name literals span) = []

abbrev pub each_listed : List Listing → List ClassTree → Full → List Declared
each_listed [] cs outer = []
each_listed (l ∷ ls) [] outer = []
each_listed (l ∷ ls) (c ∷ cs) outer = l c outer ++ each_listed ls cs outer

-- a class itself, and then those declared in it
abbrev pub class_step : ℕ → ClassTree-F Listing → Listing
class_step file layer c outer =
    record { file = file; outer = outer; tree = c } ∷ each_listed (listings layer) (classes_of c) (outer ++ name_of c ∷ [])

unfoldable pub declared_in : ℕ → Full → ClassTree → List Declared
declared_in file outer c = fold-ClassTree Listing (class_step file) c c outer

abbrev pub declared_all : ℕ → Full → List ClassTree → List Declared
declared_all file outer [] = []
declared_all file outer (c ∷ cs) = declared_in file outer c ++ declared_all file outer cs

abbrev pub declared_from : ℕ → List FileTree → List Declared
declared_from file [] = []
declared_from file (f ∷ fs) = declared_all file (within_of f.within) f.classes ++ declared_from (file + 1) fs

-- the declared classes by file, then in the order of the text: a class before those in it
abbrev pub declared : List FileTree → List Declared
declared files = declared_from 0 files

-- the parts of a name between its points
abbrev pub add_first : ℕ → Full → Full
add_first b [] = []
add_first b (x ∷ rest) = (b ∷ x) ∷ rest

abbrev pub cut : List ℕ → Full
cut [] = [] ∷ []
cut (b ∷ rest) = if b == 46 then [] ∷ cut rest else add_first b (cut rest)
