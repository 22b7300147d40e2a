-- How many names a file has: the package that it is in, each declared class, item and literal, and those in declarations and statements.
use Rattle.std.specs.Prelude.{ℕ, suc, ◌+◌, length, Option, Some, None}
use Rattle.cdl_tree.specs.declared.name.Name.{Name}
use Rattle.cdl_tree.specs.declared.class.ClassTree.{ClassTree, fold-ClassTree}
use Rattle.cdl_tree.specs.declared.class.ClassTree.TheOpen.{ClassTree-F}
use Rattle.cdl_tree.specs.declared.class.FileTree.{FileTree}
use Rattle.cdl_expressions.specs.Names.{total}
use Rattle.cdl_clauses.specs.Names.{names_of, names_of_item, names_of_statement}

abbrev pub class_names : ClassTree-F ℕ → ℕ
class_names (ClassTree-F.Block name items statements span) = suc (names_of names_of_item items + names_of names_of_statement statements)
class_names (ClassTree-F.Package name classes constants span) = suc (total classes + names_of names_of_item constants)
class_names (ClassTree-F.Enumeration name literals span) = suc (length literals)

unfoldable pub names_of_class : ClassTree → ℕ
names_of_class = fold-ClassTree ℕ class_names

abbrev pub names_of_within : Option Name → ℕ
names_of_within None = 0
names_of_within (Some name) = 1

unfoldable pub names_of_file : FileTree → ℕ
names_of_file f = names_of_within f.within + names_of names_of_class f.classes
