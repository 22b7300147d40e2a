-- The trees that productions make, as plain values.
use Rattle.std.specs.Prelude.{Bool, List, [], Option, Some, None}
use Rattle.cdl_tree.specs.declared.terminal.Terminal.{Terminal}
use Rattle.cdl_tree.specs.declared.terminal.Terminal.TheVariants as the
use Rattle.cdl_tree.specs.declared.name.Ident.{Ident}
use Rattle.cdl_tree.specs.declared.name.Name.{Name}
use Rattle.cdl_tree.specs.declared.expr.Op.{Op}
use Rattle.cdl_tree.specs.declared.expr.Op.TheVariants as op
use Rattle.cdl_tree.specs.declared.expr.Expr.{Expr, roll-Expr}
use Rattle.cdl_tree.specs.declared.expr.Node.{Node}
use Rattle.cdl_tree.specs.declared.class.Prefix.{Prefix}
use Rattle.cdl_tree.specs.declared.class.Dim.{Dim}
use Rattle.cdl_tree.specs.declared.class.Modifier.{Modifier, roll-Modifier}
use Rattle.cdl_tree.specs.declared.class.Item.{Item}
use Rattle.cdl_tree.specs.declared.class.Part.{Part}
use Rattle.cdl_tree.specs.declared.class.Ref.{Ref}
use Rattle.cdl_tree.specs.declared.class.Sub.{Sub}
use Rattle.cdl_tree.specs.declared.class.Connect.{Connect}
use Rattle.cdl_tree.specs.declared.class.Statement.{Statement}
use Rattle.cdl_tree.specs.declared.class.Loop.{Loop, roll-Loop}
use Rattle.cdl_tree.specs.declared.class.ClassTree.{ClassTree}
use Rattle.cdl_tree.specs.declared.class.ClassTree.TheVariants as class
use Rattle.cdl_tree.specs.declared.class.Closing.{Closing}
use Rattle.cdl_tree.specs.declared.class.FileTree.{FileTree}
use Rattle.cdl_tree.specs.Words.{Lexeme, Word, span_of}

abbrev pub the_ident : Lexeme → Ident
the_ident t = record { text = t.text; span = t.span }

abbrev pub the_name : List Ident → Name
the_name parts = record { parts = parts }

-- the operators of each level, by their tokens
abbrev pub comparison : Terminal → Option Op
comparison the.Less = Some op.Less
comparison the.LessEqual = Some op.LessEqual
comparison the.Greater = Some op.Greater
comparison the.GreaterEqual = Some op.GreaterEqual
comparison the.EqualEqual = Some op.Equal
comparison the.NotEqual = Some op.NotEqual
comparison _ = None

abbrev pub sign : Terminal → Option Op
sign the.Plus = Some op.Plus
sign the.Minus = Some op.Minus
sign _ = None

abbrev pub factor : Terminal → Option Op
factor the.Star = Some op.Times
factor the.Slash = Some op.Divide
factor _ = None

-- an expression, with the span of a word
unfoldable pub tree : Node → Word → Expr
tree node w = roll-Expr (record { node = node; span = span_of w })

unfoldable pub the_modifier : Bool → Bool → Ident → Option (List Modifier) → Option Expr → Word → Modifier
the_modifier each is_final name args value w =
    roll-Modifier (record { each = each; is_final = is_final; name = name; args = args; value = value; span = span_of w })

-- no list of arguments is an empty one in the tree of a declaration
abbrev pub listed : Option (List Modifier) → List Modifier
listed None = []
listed (Some args) = args

-- what stands before the declarations of a clause
pub record Head : Type 0 where
  pub is_final : Bool
  pub prefix : Prefix
  pub class : Name

unfoldable pub the_item : Head → Ident → List Dim → List Modifier → Option Expr → Option Expr → Word → Item
the_item head name dims args value condition w =
    record {
      prefix = head.prefix;
      is_final = head.is_final;
      class = head.class;
      name = name;
      dims = dims;
      args = args;
      value = value;
      condition = condition;
      span = span_of w;
    }

abbrev pub the_part : Ident → List Sub → Part
the_part name subs = record { name = name; subs = subs }

abbrev pub the_ref : List Part → Ref
the_ref parts = record { parts = parts }

unfoldable pub the_connect : Ref → Ref → Word → Connect
the_connect left right w = record { left = left; right = right; span = span_of w }

unfoldable pub the_loop : Ident → Expr → Expr → List Statement → Word → Loop
the_loop index low high body w = roll-Loop (record { index = index; low = low; high = high; body = body; span = span_of w })

unfoldable pub the_block : Ident → List Item → List Statement → Word → ClassTree
the_block name items statements w = class.Block name items statements (span_of w)

unfoldable pub the_package : Ident → List ClassTree → List Item → Word → ClassTree
the_package name classes constants w = class.Package name classes constants (span_of w)

unfoldable pub the_enumeration : Ident → List Ident → Word → ClassTree
the_enumeration name literals w = class.Enumeration name literals (span_of w)

abbrev pub the_closing : Ident → Ident → Closing
the_closing name end = record { name = name; end = end }

abbrev pub the_file : Option Name → List ClassTree → FileTree
the_file within classes = record { within = within; classes = classes }
