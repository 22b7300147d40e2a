-- The value of an expression, one construct at a time.
use Rattle.std.proofs.Common.{ℕ, ℤ, ◌≡◌, sym, subst, rules, Bool, true, false, cond, List, map, Result, Ok, Err}
use Rattle.cdl_tree.specs.declared.name.Ident.{Ident}
use Rattle.cdl_tree.specs.declared.name.Name.{Name}
use Rattle.cdl_tree.specs.declared.expr.Op.{Op}
use Rattle.cdl_tree.specs.declared.expr.Expr.{Expr, the_lemmas}
use Rattle.cdl_tree.specs.declared.expr.Node.TheVariants as node
use Rattle.cdl_values.specs.declared.value.Array.{Array}
use Rattle.cdl_values.specs.declared.value.Value.TheVariants as value
use Rattle.cdl_array.specs.declared.fault.EvalFault.{EvalFault}
use Rattle.cdl_array.specs.Outcomes.{Answers, Outcome, then_to}
use Rattle.cdl_array.specs.Scalars.{scalar}
use Rattle.cdl_array.specs.Operators.{unary, decided, condition}
use Rattle.cdl_array.specs.Literals.{literal}
use Rattle.cdl_array.specs.Functions.{function_named}
use Rattle.cdl_eval.proofs.Linking.{then_value, then_fault, branch_true, branch_false, branch_fault}
use Rattle.cdl_worth.specs.Expressions.{all, subscripted, called, right_side, eval}

integer_is : (names : Name → Outcome Array) (e : Expr) (z : ℤ) → e.node ≡ node.Integer z → eval names e ≡ Ok (scalar (value.Integer z))
unfolding eval
integer_is names e z h = search (rules, the_lemmas)

pub at_integer : (names : Name → Outcome Array) (e : Expr) (z : ℤ) (r : Result Array EvalFault) → e.node ≡ node.Integer z → Answers (Ok (scalar (value.Integer z))) r → Answers (eval names e) r
at_integer names e z r h a = subst (λ (o : Outcome Array). Answers o r) (sym (integer_is names e z h)) a

real_is : (names : Name → Outcome Array) (e : Expr) (q : ℤ) → e.node ≡ node.Real q → eval names e ≡ Ok (scalar (value.Real q))
unfolding eval
real_is names e q h = search (rules, the_lemmas)

pub at_real : (names : Name → Outcome Array) (e : Expr) (q : ℤ) (r : Result Array EvalFault) → e.node ≡ node.Real q → Answers (Ok (scalar (value.Real q))) r → Answers (eval names e) r
at_real names e q r h a = subst (λ (o : Outcome Array). Answers o r) (sym (real_is names e q h)) a

string_is : (names : Name → Outcome Array) (e : Expr) (s : List ℕ) → e.node ≡ node.Str s → eval names e ≡ Ok (scalar (value.Str s))
unfolding eval
string_is names e s h = search (rules, the_lemmas)

pub at_string : (names : Name → Outcome Array) (e : Expr) (s : List ℕ) (r : Result Array EvalFault) → e.node ≡ node.Str s → Answers (Ok (scalar (value.Str s))) r → Answers (eval names e) r
at_string names e s r h a = subst (λ (o : Outcome Array). Answers o r) (sym (string_is names e s h)) a

boolean_is : (names : Name → Outcome Array) (e : Expr) (b : Bool) → e.node ≡ node.Boolean b → eval names e ≡ Ok (scalar (value.Boolean b))
unfolding eval
boolean_is names e b h = search (rules, the_lemmas)

pub at_boolean : (names : Name → Outcome Array) (e : Expr) (b : Bool) (r : Result Array EvalFault) → e.node ≡ node.Boolean b → Answers (Ok (scalar (value.Boolean b))) r → Answers (eval names e) r
at_boolean names e b r h a = subst (λ (o : Outcome Array). Answers o r) (sym (boolean_is names e b h)) a

refer_is : (names : Name → Outcome Array) (e : Expr) (n : Name) (subs : List Expr) → e.node ≡ node.Refer n subs → eval names e ≡ then_to (names n) (subscripted (map (eval names) subs))
unfolding eval
refer_is names e n subs h = search (rules, the_lemmas)

pub at_refer : (names : Name → Outcome Array) (e : Expr) (n : Name) (subs : List Expr) (r : Result Array EvalFault) → e.node ≡ node.Refer n subs → Answers (then_to (names n) (subscripted (map (eval names) subs))) r → Answers (eval names e) r
at_refer names e n subs r h a = subst (λ (o : Outcome Array). Answers o r) (sym (refer_is names e n subs h)) a

call_is : (names : Name → Outcome Array) (e : Expr) (f : Ident) (args : List Expr) → e.node ≡ node.Call f args → eval names e ≡ called (function_named f.text) (map (eval names) args)
unfolding eval
call_is names e f args h = search (rules, the_lemmas)

pub at_call : (names : Name → Outcome Array) (e : Expr) (f : Ident) (args : List Expr) (r : Result Array EvalFault) → e.node ≡ node.Call f args → Answers (called (function_named f.text) (map (eval names) args)) r → Answers (eval names e) r
at_call names e f args r h a = subst (λ (o : Outcome Array). Answers o r) (sym (call_is names e f args h)) a

array_is : (names : Name → Outcome Array) (e : Expr) (items : List Expr) → e.node ≡ node.Array items → eval names e ≡ then_to (all (map (eval names) items)) literal
unfolding eval
array_is names e items h = search (rules, the_lemmas)

pub at_array : (names : Name → Outcome Array) (e : Expr) (items : List Expr) (r : Result Array EvalFault) → e.node ≡ node.Array items → Answers (then_to (all (map (eval names) items)) literal) r → Answers (eval names e) r
at_array names e items r h a = subst (λ (o : Outcome Array). Answers o r) (sym (array_is names e items h)) a

unary_is : (names : Name → Outcome Array) (e : Expr) (op : Op) (x : Expr) → e.node ≡ node.Unary op x → eval names e ≡ then_to (eval names x) (unary op)
unfolding eval
unary_is names e op x h = search (rules, the_lemmas)

pub at_unary : (names : Name → Outcome Array) (e : Expr) (op : Op) (x : Expr) (r : Result Array EvalFault) → e.node ≡ node.Unary op x → Answers (then_to (eval names x) (unary op)) r → Answers (eval names e) r
at_unary names e op x r h a = subst (λ (o : Outcome Array). Answers o r) (sym (unary_is names e op x h)) a

binary_is : (names : Name → Outcome Array) (e : Expr) (op : Op) (x y : Expr) → e.node ≡ node.Binary op x y → eval names e ≡ then_to (eval names x) (λ a. then_to (decided op a) (right_side op a (eval names y)))
unfolding eval
binary_is names e op x y h = search (rules, the_lemmas)

pub at_binary : (names : Name → Outcome Array) (e : Expr) (op : Op) (x y : Expr) (r : Result Array EvalFault) → e.node ≡ node.Binary op x y → Answers (then_to (eval names x) (λ a. then_to (decided op a) (right_side op a (eval names y)))) r → Answers (eval names e) r
at_binary names e op x y r h a = subst (λ (o : Outcome Array). Answers o r) (sym (binary_is names e op x y h)) a

if_is : (names : Name → Outcome Array) (e c x y : Expr) → e.node ≡ node.If c x y → eval names e ≡ then_to (eval names c) (λ a. then_to (condition a) (λ b. cond b (eval names x) (eval names y)))
unfolding eval
if_is names e c x y h = search (rules, the_lemmas)

pub at_if : (names : Name → Outcome Array) (e c x y : Expr) (r : Result Array EvalFault) → e.node ≡ node.If c x y → Answers (then_to (eval names c) (λ a. then_to (condition a) (λ b. cond b (eval names x) (eval names y)))) r → Answers (eval names e) r
at_if names e c x y r h a = subst (λ (o : Outcome Array). Answers o r) (sym (if_is names e c x y h)) a

-- two operands, behind the left one
pub binary_value : (names : Name → Outcome Array) (e : Expr) (op : Op) (x y left right : Expr) (a : Array) (r : Result Array EvalFault) → e.node ≡ node.Binary op x y → left ≡ x → right ≡ y → eval names left ≡ Ok a
    → Answers (then_to (decided op a) (right_side op a (eval names right))) r → Answers (eval names e) r
binary_value names e op x y left right a r h p q v k =
    let found : eval names x ≡ Ok a = subst (λ (z : Expr). eval names z ≡ Ok a) p v in
    let rest : Answers (then_to (decided op a) (right_side op a (eval names y))) r = subst (λ (z : Expr). Answers (then_to (decided op a) (right_side op a (eval names z))) r) q k in
    at_binary names e op x y r h (then_value (eval names x) (λ b. then_to (decided op b) (right_side op b (eval names y))) a r found rest)

pub binary_fault : (names : Name → Outcome Array) (e : Expr) (op : Op) (x y left : Expr) (fault : EvalFault) → e.node ≡ node.Binary op x y → left ≡ x → Answers {A = Array} (eval names left) (Err fault) → Answers {A = Array} (eval names e) (Err fault)
binary_fault names e op x y left fault h p v =
    at_binary names e op x y (Err fault) h (then_fault (eval names x) (λ b. then_to (decided op b) (right_side op b (eval names y))) fault (subst (λ (z : Expr). Answers {A = Array} (eval names z) (Err fault)) p v))

-- a branch, behind its condition
pub if_true : (names : Name → Outcome Array) (e c x y test then' : Expr) (r : Result Array EvalFault) → e.node ≡ node.If c x y → test ≡ c → then' ≡ x → then_to (eval names test) condition ≡ Ok true → Answers (eval names then') r → Answers (eval names e) r
if_true names e c x y test then' r h p q v k =
    let found : then_to (eval names c) condition ≡ Ok true = subst (λ (z : Expr). then_to (eval names z) condition ≡ Ok true) p v in
    at_if names e c x y r h (branch_true (eval names c) condition (eval names x) (eval names y) r found (subst (λ (z : Expr). Answers (eval names z) r) q k))

pub if_false : (names : Name → Outcome Array) (e c x y test other : Expr) (r : Result Array EvalFault) → e.node ≡ node.If c x y → test ≡ c → other ≡ y → then_to (eval names test) condition ≡ Ok false → Answers (eval names other) r → Answers (eval names e) r
if_false names e c x y test other r h p q v k =
    let found : then_to (eval names c) condition ≡ Ok false = subst (λ (z : Expr). then_to (eval names z) condition ≡ Ok false) p v in
    at_if names e c x y r h (branch_false (eval names c) condition (eval names x) (eval names y) r found (subst (λ (z : Expr). Answers (eval names z) r) q k))

pub if_fault : (names : Name → Outcome Array) (e c x y test : Expr) (fault : EvalFault) → e.node ≡ node.If c x y → test ≡ c → Answers {A = Bool} (then_to (eval names test) condition) (Err fault) → Answers {A = Array} (eval names e) (Err fault)
if_fault names e c x y test fault h p v =
    at_if names e c x y (Err fault) h (branch_fault (eval names c) condition (eval names x) (eval names y) fault (subst (λ (z : Expr). Answers {A = Bool} (then_to (eval names z) condition) (Err fault)) p v))
