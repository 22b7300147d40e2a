-- What a class holds, whatever it is.
use Rattle.std.specs.Prelude.{List, []}
use Rattle.cdl_source.specs.declared.place.Span.{Span}
use Rattle.cdl_tree.specs.declared.name.Ident.{Ident}
use Rattle.cdl_tree.specs.declared.class.Item.{Item}
use Rattle.cdl_tree.specs.declared.class.Statement.{Statement}
use Rattle.cdl_tree.specs.declared.class.ClassTree.{ClassTree, out-ClassTree}
use Rattle.cdl_tree.specs.declared.class.ClassTree.TheOpen.{ClassTree-F}

abbrev pub name_at : ClassTree-F ClassTree → Ident
name_at (ClassTree-F.Block name items statements span) = name
name_at (ClassTree-F.Package name classes constants span) = name
name_at (ClassTree-F.Enumeration name literals span) = name

abbrev pub span_at : ClassTree-F ClassTree → Span
span_at (ClassTree-F.Block name items statements span) = span
span_at (ClassTree-F.Package name classes constants span) = span
span_at (ClassTree-F.Enumeration name literals span) = span

abbrev pub items_at : ClassTree-F ClassTree → List Item
items_at (ClassTree-F.Block name items statements span) = items
items_at (ClassTree-F.Package name classes constants span) = constants
items_at (ClassTree-F.Enumeration name literals span) = []

abbrev pub classes_at : ClassTree-F ClassTree → List ClassTree
classes_at (ClassTree-F.Block name items statements span) = []
classes_at (ClassTree-F.Package name classes constants span) = classes
classes_at (ClassTree-F.Enumeration name literals span) = []

abbrev pub literals_at : ClassTree-F ClassTree → List Ident
literals_at (ClassTree-F.Block name items statements span) = []
literals_at (ClassTree-F.Package name classes constants span) = []
literals_at (ClassTree-F.Enumeration name literals span) = literals

abbrev pub statements_at : ClassTree-F ClassTree → List Statement
statements_at (ClassTree-F.Block name items statements span) = statements
statements_at (ClassTree-F.Package name classes constants span) = []
statements_at (ClassTree-F.Enumeration name literals span) = []

-- the declared identifier
unfoldable pub class_name : ClassTree → Ident
class_name c = name_at (out-ClassTree c)

unfoldable pub class_span : ClassTree → Span
class_span c = span_at (out-ClassTree c)

-- the items of a block, the constants of a package
unfoldable pub items_of : ClassTree → List Item
items_of c = items_at (out-ClassTree c)

-- the classes in a package
unfoldable pub classes_of : ClassTree → List ClassTree
classes_of c = classes_at (out-ClassTree c)

-- the literals of an enumeration
unfoldable pub literals_of : ClassTree → List Ident
literals_of c = literals_at (out-ClassTree c)

-- the statements of a block
unfoldable pub statements_of : ClassTree → List Statement
statements_of c = statements_at (out-ClassTree c)
