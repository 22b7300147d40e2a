-- How many names an expression and an argument have: each name of a variable or of a function, and the name of what an argument modifies.
use Rattle.std.specs.Prelude.{ℕ, suc, ◌+◌, List, [], ◌∷◌, Option, Some, None}
use Rattle.cdl_tree.specs.declared.expr.Expr.{Expr, fold-Expr}
use Rattle.cdl_tree.specs.declared.expr.Node.TheOpen.{Node-F, Expr-F}
use Rattle.cdl_tree.specs.declared.class.Modifier.{Modifier, fold-Modifier}
use Rattle.cdl_tree.specs.declared.class.Modifier.TheOpen.{Modifier-F}

abbrev pub total : List ℕ → ℕ
total [] = 0
total (n ∷ ns) = n + total ns

abbrev pub node_names : Node-F ℕ ℕ → ℕ
node_names (Node-F.Refer name subs) = suc (total subs)
node_names (Node-F.Call function args) = suc (total args)
node_names (Node-F.Array items) = total items
node_names (Node-F.Unary o e) = e
node_names (Node-F.Binary o l r) = l + r
node_names (Node-F.If c x y) = c + (x + y)
node_names _ = 0

abbrev pub expr_names : Expr-F ℕ ℕ → ℕ
expr_names e = e.node

unfoldable pub names_in : Expr → ℕ
names_in = fold-Expr ℕ ℕ node_names expr_names

abbrev pub names_of_value : Option Expr → ℕ
names_of_value None = 0
names_of_value (Some e) = names_in e

abbrev pub names_inside : Option (List ℕ) → ℕ
names_inside None = 0
names_inside (Some ns) = total ns

abbrev pub modifier_names : Modifier-F ℕ → ℕ
modifier_names m = suc (names_inside m.args + names_of_value m.value)

unfoldable pub names_of_modifier : Modifier → ℕ
names_of_modifier = fold-Modifier ℕ modifier_names
