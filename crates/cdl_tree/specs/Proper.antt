-- What the value of an expression needs: a name has a part, an array has an item, and an operator the operands that it takes.
use Rattle.std.specs.Prelude.{Bool, true, false, ◌&&◌, List, [], ◌∷◌}
use Rattle.cdl_tree.specs.declared.expr.Op.{Op}
use Rattle.cdl_tree.specs.declared.expr.Op.TheVariants as op
use Rattle.cdl_tree.specs.declared.expr.Expr.{Expr, fold-Expr}
use Rattle.cdl_tree.specs.declared.expr.Node.TheOpen.{Node-F, Expr-F}

-- the operators of one operand
abbrev pub is_unary : Op → Bool
is_unary op.Plus = true
is_unary op.Minus = true
is_unary op.Not = true
is_unary _ = false

-- the operators of two operands
abbrev pub is_binary : Op → Bool
is_binary op.Not = false
is_binary _ = true

abbrev pub is_some : {A : Type 0} → List A → Bool
is_some [] = false
is_some (x ∷ xs) = true

-- each of the answers is yes
abbrev pub all_of : List Bool → Bool
all_of [] = true
all_of (b ∷ bs) = b && all_of bs

abbrev pub node_step : Node-F Bool Bool → Bool
node_step (Node-F.Integer z) = true
node_step (Node-F.Real q) = true
node_step (Node-F.Str s) = true
node_step (Node-F.Boolean b) = true
node_step (Node-F.Refer name subs) = is_some name.parts && all_of subs
node_step (Node-F.Call function args) = all_of args
node_step (Node-F.Array items) = is_some items && all_of items
node_step (Node-F.Unary o e) = is_unary o && e
node_step (Node-F.Binary o l r) = is_binary o && (l && r)
node_step (Node-F.If c x y) = c && (x && y)

abbrev pub expr_step : Expr-F Bool Bool → Bool
expr_step e = e.node

unfoldable pub is_proper : Expr → Bool
is_proper = fold-Expr Bool Bool node_step expr_step
