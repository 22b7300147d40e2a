-- What an expression is worth, by what its names are worth.
use Rattle.std.proofs.Common.{◌≡◌, suc, refl, ap, subst, Bool, List, [], ◌∷◌, length, map, Option, Some, None}
use Rattle.cdl_source.specs.declared.rules.TheConstants.{UNKNOWN_NAME}
use Rattle.cdl_tree.specs.declared.name.Name.{Name}
use Rattle.cdl_tree.specs.declared.expr.Op.{Op}
use Rattle.cdl_tree.specs.declared.expr.Expr.{Expr, fold-Expr}
use Rattle.cdl_tree.specs.declared.expr.Node.{Node}
use Rattle.cdl_tree.specs.declared.expr.Node.TheOpen.{Node-F, Expr-F}
use Rattle.cdl_tree.specs.declared.expr.Node.TheFolds.{ind-Expr, map-Node, map-Expr, fold-Node, fold-roll-Expr, fold-roll-Node}
use Rattle.cdl_values.specs.declared.value.Array.{Array}
use Rattle.cdl_tree.specs.declared.expr.Node.TheViews.{roll-Node}
use Rattle.cdl_tree.specs.declared.expr.Expr.{roll-Expr}
use Rattle.cdl_array.specs.Literals.{literal}
use Rattle.cdl_array.specs.Operators.{unary, decided, condition}
use Rattle.cdl_array.specs.declared.functions.Function.{Function}
use Rattle.cdl_array.specs.Functions.{takes, call, function_named}
use Rattle.cdl_array.specs.Outcomes.{Outcome, then_to, holds_or}
use Rattle.cdl_worth.specs.Expressions.{all, subscripted, called, right_side, node_step, expr_step, eval}
use Rattle.cdl_worth.specs.Links.{Within, same}
use Rattle.cdl_worth.proofs.Withins.{then_within, after_within, before_within, holds_within, cond_within}

all_within : {X : Type 0} (f g : X → Outcome Array) (xs : List ((x : X) × Within (f x) (g x))) → Within (all (map f (map (λ p. p.0) xs))) (all (map g (map (λ p. p.0) xs)))
all_within f g [] = same refl
all_within f g (p ∷ xs) = then_within (f p.0) (g p.0) _ _ p.1 (λ a. before_within _ _ _ (all_within f g xs))

same_length : {X : Type 0} (f g : X → Outcome Array) (xs : List X) → length (map f xs) ≡ length (map g xs)
same_length f g [] = refl
same_length f g (x ∷ xs) = ap suc (same_length f g xs)

subscripted_within : {X : Type 0} (f g : X → Outcome Array) (a : Array) (xs : List ((x : X) × Within (f x) (g x))) → Within (subscripted (map f (map (λ p. p.0) xs)) a) (subscripted (map g (map (λ p. p.0) xs)) a)
subscripted_within f g a [] = same refl
subscripted_within f g a (p ∷ xs) = before_within _ _ _ (all_within f g (p ∷ xs))

called_within : {X : Type 0} (f g : X → Outcome Array) (o : Option Function) (xs : List ((x : X) × Within (f x) (g x))) → Within (called o (map f (map (λ p. p.0) xs))) (called o (map g (map (λ p. p.0) xs)))
called_within f g None xs = same refl
called_within f g (Some k) xs =
    subst (λ n. Within (called (Some k) (map f (map (λ p. p.0) xs))) (holds_or (takes k n) UNKNOWN_NAME (then_to (all (map g (map (λ p. p.0) xs))) (call k)))) (same_length f g (map (λ p. p.0) xs))
    (holds_within (takes k (length (map f (map (λ p. p.0) xs)))) UNKNOWN_NAME _ _ (before_within _ _ (call k) (all_within f g xs)))

right_within : (op : Op) (a : Array) (x y : Outcome Array) → Within x y → (o : Option Bool) → Within (right_side op a x o) (right_side op a y o)
right_within op a x y h None = before_within _ _ _ h
right_within op a x y h (Some b) = same refl

abbrev node_eval : (Name → Outcome Array) → Node → Outcome Array
node_eval f = fold-Node (Outcome Array) (Outcome Array) (node_step f) expr_step

abbrev expr_eval : (Name → Outcome Array) → Expr → Outcome Array
expr_eval f = fold-Expr (Outcome Array) (Outcome Array) (node_step f) expr_step

-- a node with something beside each of its parts
abbrev Beside : (f g : Name → Outcome Array) → Type 0
Beside f g = Node-F ((n : Node) × Within (node_eval f n) (node_eval g n)) ((e : Expr) × Within (expr_eval f e) (expr_eval g e))

abbrev firsts : (f g : Name → Outcome Array) → Beside f g → Node-F Node Expr
firsts f g y = map-Node ((n : Node) × Within (node_eval f n) (node_eval g n)) ((e : Expr) × Within (expr_eval f e) (expr_eval g e)) Node Expr (λ p. p.0) (λ p. p.0) y

abbrev the_first : (f g : Name → Outcome Array) → Expr-F ((n : Node) × Within (node_eval f n) (node_eval g n)) ((e : Expr) × Within (expr_eval f e) (expr_eval g e)) → Expr-F Node Expr
the_first f g y = map-Expr ((n : Node) × Within (node_eval f n) (node_eval g n)) ((e : Expr) × Within (expr_eval f e) (expr_eval g e)) Node Expr (λ p. p.0) (λ p. p.0) y

node_within : (f g : Name → Outcome Array) → ((n : Name) → Within (f n) (g n)) → (y : Beside f g) → Within (node_step f (map-Node Node Expr (Outcome Array) (Outcome Array) (node_eval f) (expr_eval f) (firsts f g y))) (node_step g (map-Node Node Expr (Outcome Array) (Outcome Array) (node_eval g) (expr_eval g) (firsts f g y)))
node_within f g h (Node-F.Integer z) = same refl
node_within f g h (Node-F.Real q) = same refl
node_within f g h (Node-F.Str s) = same refl
node_within f g h (Node-F.Boolean b) = same refl
node_within f g h (Node-F.Refer name subs) = then_within (f name) (g name) _ _ (h name) (λ a. subscripted_within (expr_eval f) (expr_eval g) a subs)
node_within f g h (Node-F.Call function args) = called_within (expr_eval f) (expr_eval g) (function_named function.text) args
node_within f g h (Node-F.Array items) = before_within _ _ literal (all_within (expr_eval f) (expr_eval g) items)
node_within f g h (Node-F.Unary op x) = before_within _ _ (unary op) x.1
node_within f g h (Node-F.Binary op x y) = then_within _ _ _ _ x.1 (λ a. after_within (decided op a) _ _ (λ o. right_within op a _ _ y.1 o))
node_within f g h (Node-F.If c x y) = then_within _ _ _ _ c.1 (λ a. after_within (condition a) _ _ (λ b. cond_within b _ _ _ _ x.1 y.1))

pub eval_within : (f g : Name → Outcome Array) → ((n : Name) → Within (f n) (g n)) → (e : Expr) → Within (eval f e) (eval g e)
unfolding eval
eval_within f g h e = ind-Expr (λ n. Within (node_eval f n) (node_eval g n)) (λ e. Within (expr_eval f e) (expr_eval g e))
    (λ x y is. subst (λ z. Within (node_eval f (roll-Node z)) (node_eval g (roll-Node z))) is
    (rw (fold-roll-Node (Outcome Array) (Outcome Array) (node_step f) expr_step (firsts f g y), fold-roll-Node (Outcome Array) (Outcome Array) (node_step g) expr_step (firsts f g y)) (node_within f g h y)))
    (λ x y is. subst (λ z. Within (expr_eval f (roll-Expr z)) (expr_eval g (roll-Expr z))) is
    (rw (fold-roll-Expr (Outcome Array) (Outcome Array) (node_step f) expr_step (the_first f g y), fold-roll-Expr (Outcome Array) (Outcome Array) (node_step g) expr_step (the_first f g y)) y.node.1))
    e
