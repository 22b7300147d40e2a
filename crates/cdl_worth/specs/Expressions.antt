-- What an expression is worth where names have these values: from the left, and the first rule that is broken counts.
use Rattle.std.specs.Prelude.{Bool, cond, List, [], ◌∷◌, length, Option, Some, None, Ok, Err}
use Rattle.cdl_values.specs.declared.value.Array.{Array}
use Rattle.cdl_values.specs.declared.value.Value.TheVariants as value
use Rattle.cdl_tree.specs.declared.name.Name.{Name}
use Rattle.cdl_tree.specs.declared.expr.Op.{Op}
use Rattle.cdl_tree.specs.declared.expr.Expr.{Expr, fold-Expr}
use Rattle.cdl_tree.specs.declared.expr.Node.TheOpen.{Node-F, Expr-F}
use Rattle.cdl_source.specs.declared.rules.TheConstants.{UNKNOWN_NAME}
use Rattle.cdl_array.specs.declared.functions.Function.{Function}
use Rattle.cdl_array.specs.Outcomes.{Outcome, then_to, holds_or}
use Rattle.cdl_array.specs.Scalars.{scalar}
use Rattle.cdl_array.specs.Operators.{unary, binary, decided, condition}
use Rattle.cdl_array.specs.Literals.{literal}
use Rattle.cdl_array.specs.Parts.{subscript}
use Rattle.cdl_array.specs.Functions.{function_named, takes, call}

-- all of these, from the left
abbrev pub all : List (Outcome Array) → Outcome (List Array)
all [] = Ok []
all (x ∷ xs) = then_to x (λ a. then_to (all xs) (λ rest. Ok (a ∷ rest)))

-- an array with subscripts, where there are some
abbrev pub subscripted : List (Outcome Array) → Array → Outcome Array
subscripted [] a = Ok a
subscripted (s ∷ subs) a = then_to (all (s ∷ subs)) (subscript a)

-- a function of arguments, of which it takes so many
abbrev pub called : Option Function → List (Outcome Array) → Outcome Array
called None args = Err UNKNOWN_NAME
called (Some f) args = holds_or (takes f (length args)) UNKNOWN_NAME (then_to (all args) (call f))

-- the right side counts where the left one doesn't decide
abbrev pub right_side : Op → Array → Outcome Array → Option Bool → Outcome Array
right_side op a y (Some b) = Ok (scalar (value.Boolean b))
right_side op a y None = then_to y (binary op a)

abbrev pub node_step : (Name → Outcome Array) → Node-F (Outcome Array) (Outcome Array) → Outcome Array
node_step names (Node-F.Integer z) = Ok (scalar (value.Integer z))
node_step names (Node-F.Real q) = Ok (scalar (value.Real q))
node_step names (Node-F.Str s) = Ok (scalar (value.Str s))
node_step names (Node-F.Boolean b) = Ok (scalar (value.Boolean b))
node_step names (Node-F.Refer name subs) = then_to (names name) (subscripted subs)
node_step names (Node-F.Call function args) = called (function_named function.text) args
node_step names (Node-F.Array items) = then_to (all items) literal
node_step names (Node-F.Unary op x) = then_to x (unary op)
node_step names (Node-F.Binary op x y) = then_to x (λ a. then_to (decided op a) (right_side op a y))
node_step names (Node-F.If c x y) = then_to c (λ a. then_to (condition a) (λ b. cond b x y))

abbrev pub expr_step : Expr-F (Outcome Array) (Outcome Array) → Outcome Array
expr_step e = e.node

unfoldable pub eval : (Name → Outcome Array) → Expr → Outcome Array
eval names = fold-Expr (Outcome Array) (Outcome Array) (node_step names) expr_step
