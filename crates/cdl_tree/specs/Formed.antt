-- What holds of every expression that a text has, and of what can be printed: it is proper, its identifiers are identifiers, its literals
-- are not negative, and its strings are UTF-8.
use Rattle.std.specs.Prelude.{ℤ, pos, negsuc, Bool, true, false, ◌&&◌, nat_le}
use Rattle.cdl_source.specs.declared.limits.TheConstants.{LARGEST_INTEGER}
use Rattle.std.specs.List.{list_all}
use Rattle.std.specs.Str.{is_utf8}
use Rattle.cdl_source.specs.Identifiers.{is_identifier}
use Rattle.cdl_tree.specs.declared.name.Ident.{Ident}
use Rattle.cdl_tree.specs.declared.name.Name.{Name}
use Rattle.cdl_tree.specs.declared.expr.Expr.{Expr, fold-Expr}
use Rattle.cdl_tree.specs.declared.expr.Node.TheOpen.{Node-F, Expr-F}
use Rattle.cdl_tree.specs.Proper.{is_some, all_of, is_proper}

abbrev pub formed_ident : Ident → Bool
formed_ident i = is_identifier i.text

abbrev pub formed_name : Name → Bool
formed_name n = is_some n.parts && list_all formed_ident n.parts

-- a whole number that a text may have
abbrev pub is_integer : ℤ → Bool
is_integer (pos n) = nat_le n LARGEST_INTEGER
is_integer (negsuc n) = false

abbrev pub is_not_negative : ℤ → Bool
is_not_negative (pos n) = true
is_not_negative (negsuc n) = false

-- the identifiers, literals and strings of an expression are as texts have them
abbrev pub node_written : Node-F Bool Bool → Bool
node_written (Node-F.Integer z) = is_integer z
node_written (Node-F.Real q) = is_not_negative q
node_written (Node-F.Str s) = is_utf8 s
node_written (Node-F.Boolean b) = true
node_written (Node-F.Refer name subs) = list_all formed_ident name.parts && all_of subs
node_written (Node-F.Call function args) = formed_ident function && all_of args
node_written (Node-F.Array items) = all_of items
node_written (Node-F.Unary o e) = e
node_written (Node-F.Binary o l r) = l && r
node_written (Node-F.If c x y) = c && (x && y)

abbrev pub expr_written : Expr-F Bool Bool → Bool
expr_written e = e.node

unfoldable pub is_written : Expr → Bool
is_written = fold-Expr Bool Bool node_written expr_written

-- The expression is proper, and its leaves are as texts have them.
unfoldable pub is_formed : Expr → Bool
is_formed e = is_proper e && is_written e
