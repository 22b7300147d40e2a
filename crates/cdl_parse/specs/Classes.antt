-- The parser of classes and files, as a function.
use Rattle.std.specs.Prelude.{ℕ, zero, suc, Bool, true, false, if◌then◌else◌, List, [], ◌∷◌, ◌++◌, Option, Some, None, Ok, Err}
use Rattle.std.specs.Str.{bytes_eq}
use Rattle.cdl_tree.specs.declared.terminal.Terminal.{Terminal}
use Rattle.cdl_tree.specs.declared.terminal.Terminal.TheVariants as the
use Rattle.cdl_tree.specs.declared.name.Ident.{Ident}
use Rattle.cdl_tree.specs.declared.name.Name.{Name}
use Rattle.cdl_tree.specs.declared.class.Item.{Item}
use Rattle.cdl_tree.specs.declared.class.ClassTree.{ClassTree}
use Rattle.cdl_tree.specs.Grammar.{is_section}
use Rattle.cdl_tree.specs.Trees.{the_name, the_block, the_package, the_enumeration, the_file}
use Rattle.cdl_parse.specs.declared.closed.ClosedClass.{ClosedClass}
use Rattle.cdl_parse.specs.declared.closed.ClosedFile.{ClosedFile}
use Rattle.cdl_parse.specs.declared.closed.FileParts.{FileParts}
use Rattle.cdl_parse.specs.declared.closed.PackageParts.{PackageParts}
use Rattle.cdl_reading.specs.Reading.{Parser, ◌>>=◌, ◌>>◌, pure, refuse, terminal, next, peek, here, eat, expect, expect_end, ident, made, list}
use Rattle.cdl_expressions.specs.Expressions.{name}
use Rattle.cdl_expressions.specs.Arguments.{text_of}
use Rattle.cdl_clauses.specs.Declarations.{tail, note_clause, clause, constant}
use Rattle.cdl_clauses.specs.Statements.{equation_part}

-- "public" or "protected"
unfoldable pub section : Parser (Unit {0})
section = λ i. if is_section (terminal i) then Ok (tt, next i) else Err i

-- where the identifier behind `end` stands, unless it is the class's
abbrev pub wrong_end : Ident → Ident → Option ℕ
wrong_end name end = if bytes_eq name.text end.text then None else Some end.span.start

abbrev pub or_then : Option ℕ → Option ℕ → Option ℕ
or_then None later = later
or_then (Some at) later = Some at

abbrev pub closed : ClassTree → Option ℕ → ClosedClass
closed class wrong = record { class = class; wrong = wrong }

abbrev pub with_class : PackageParts → ClosedClass → PackageParts
with_class found c = record { classes = found.classes ++ c.class ∷ []; constants = found.constants; wrong = or_then found.wrong c.wrong }

abbrev pub with_constants : PackageParts → List Item → PackageParts
with_constants found constants = record { classes = found.classes; constants = constants; wrong = found.wrong }

abbrev pub begins_block_part : Terminal → Bool
begins_block_part the.Public = true
begins_block_part the.Protected = true
begins_block_part the.Annotation = true
begins_block_part the.Final = true
begins_block_part the.Parameter = true
begins_block_part the.Constant = true
begins_block_part the.Identifier = true
begins_block_part _ = false

abbrev pub begins_class : Terminal → Bool
begins_class the.Block = true
begins_class the.Package = true
begins_class the.Type = true
begins_class _ = false

abbrev pub begins_package_part : Terminal → Bool
begins_package_part the.Public = true
begins_package_part the.Protected = true
begins_package_part the.Annotation = true
begins_package_part the.Final = true
begins_package_part the.Constant = true
begins_package_part the.Block = true
begins_package_part the.Package = true
begins_package_part the.Type = true
begins_package_part _ = false

module _ (most : ℕ) where
  -- ---- blocks

  abbrev pub block_part_by : List Item → Terminal → Parser (List Item)
  block_part_by found the.Public = do
    section
    pure found
  block_part_by found the.Protected = do
    section
    pure found
  block_part_by found the.Annotation = do
    note_clause most
    pure found
  block_part_by found _ = clause most found

  unfoldable pub block_part : List Item → Parser (List Item)
  block_part found = peek >>= block_part_by found

  unfoldable pub block_parts_from : ℕ → List Item → Parser (List Item)
  block_parts_from zero found = pure found
  block_parts_from (suc turns) found = do
    terminal ← peek
    if begins_block_part terminal then (do more ← block_part found; block_parts_from turns more) else pure found

  unfoldable pub block : Parser ClosedClass
  block = do
    start ← here
    expect the.Block
    name ← ident
    text_of most
    items ← block_parts_from most []
    statements ← equation_part most
    expect the.End
    end ← ident
    made (λ w. closed (the_block name items statements w) (wrong_end name end)) start

  -- ---- enumerations

  unfoldable pub literal_of : Parser Ident
  literal_of = do
    name ← ident
    tail most
    pure name

  unfoldable pub literal_list : Parser (List Ident)
  literal_list = list the.Comma literal_of most []

  unfoldable pub enumeration : Parser ClosedClass
  enumeration = do
    start ← here
    expect the.Type
    name ← ident
    expect the.Equals
    expect the.Enumeration
    expect the.Open
    literals ← literal_list
    expect the.Close
    tail most
    made (λ w. closed (the_enumeration name literals w) None) start

  -- ---- packages

  module _ (whole : Parser ClosedClass) where
    unfoldable pub class_clause : Parser ClosedClass
    class_clause = do
      c ← whole
      expect the.Semicolon
      pure c

    unfoldable pub package_constant : PackageParts → Parser PackageParts
    package_constant found = do
      constants ← constant most found.constants
      pure (with_constants found constants)

    unfoldable pub package_class_part : PackageParts → Parser PackageParts
    package_class_part found = do
      c ← class_clause
      pure (with_class found c)

    abbrev pub package_part_by : PackageParts → Terminal → Parser PackageParts
    package_part_by found the.Public = do
      section
      pure found
    package_part_by found the.Protected = do
      section
      pure found
    package_part_by found the.Annotation = do
      note_clause most
      pure found
    package_part_by found the.Final = package_constant found
    package_part_by found the.Constant = package_constant found
    package_part_by found _ = package_class_part found

    unfoldable pub package_part : PackageParts → Parser PackageParts
    package_part found = peek >>= package_part_by found

    unfoldable pub package_parts_from : ℕ → PackageParts → Parser PackageParts
    package_parts_from zero found = pure found
    package_parts_from (suc turns) found = do
      terminal ← peek
      if begins_package_part terminal then (do more ← package_part found; package_parts_from turns more) else pure found

    unfoldable pub package_parts : Parser PackageParts
    package_parts = package_parts_from most (record { classes = []; constants = []; wrong = None })

    unfoldable pub package_class : Parser ClosedClass
    package_class = do
      start ← here
      expect the.Package
      name ← ident
      text_of most
      parts ← package_parts
      expect the.End
      end ← ident
      made (λ w. closed (the_package name parts.classes parts.constants w) (or_then parts.wrong (wrong_end name end))) start

    abbrev pub class_by : Terminal → Parser ClosedClass
    class_by the.Block = block
    class_by the.Package = package_class
    class_by the.Type = enumeration
    class_by _ = refuse

    unfoldable pub any_class : Parser ClosedClass
    any_class = peek >>= class_by

-- classes that nest no deeper than the number
unfoldable pub class : ℕ → Parser ClosedClass
class zero = refuse
class (suc depth) = any_class depth (class depth)

-- ---- files

module _ (most : ℕ) where
  unfoldable pub within_name : Parser (Option Name)
  within_name = do
    top ← eat the.Semicolon
    if top then pure None else (do parts ← name most; expect the.Semicolon; pure (Some (the_name parts)))

  unfoldable pub within : Parser (Option Name)
  within = do
    some ← eat the.Within
    if some then within_name else pure None

  -- class ";", behind the classes that are found
  unfoldable pub file_class : FileParts → Parser FileParts
  file_class found = do
    c ← class_clause most (class most)
    pure (record { classes = found.classes ++ c.class ∷ []; wrong = or_then found.wrong c.wrong })

  unfoldable pub file_from : ℕ → FileParts → Parser FileParts
  file_from zero found = pure found
  file_from (suc turns) found = do
    terminal ← peek
    if begins_class terminal then (do more ← file_class found; file_from turns more) else pure found

  unfoldable pub file_classes : Parser FileParts
  file_classes = do
    first ← file_class (record { classes = []; wrong = None })
    file_from most first

  unfoldable pub file : Parser ClosedFile
  file = do
    parent ← within
    parts ← file_classes
    pure (record { tree = the_file parent parts.classes; wrong = parts.wrong })

  -- a file and nothing behind it
  unfoldable pub whole_file : Parser ClosedFile
  whole_file = do
    x ← file
    expect_end
    pure x
