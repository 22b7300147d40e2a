-- What arguments give: of two of one name the first counts.
use Rattle.std.specs.Prelude.{ℕ, Bool, false, cond, List, [], ◌∷◌, ◌++◌, Option, Some, None, option_and_then}
use Rattle.std.specs.Str.{bytes_eq}
use Rattle.cdl_tree.specs.declared.expr.Expr.{Expr}
use Rattle.cdl_tree.specs.declared.class.Modifier.{Modifier, out-Modifier}
use Rattle.cdl_paths.specs.declared.path.Step.{Step}

abbrev pub name_of : Modifier → List ℕ
name_of m = (out-Modifier m).name.text

abbrev pub value_of : Modifier → Option Expr
value_of m = (out-Modifier m).value

abbrev pub each_of : Modifier → Bool
each_of m = (out-Modifier m).each

abbrev pub listed : Option (List Modifier) → List Modifier
listed None = []
listed (Some args) = args

-- the arguments of an argument; no list has none
abbrev pub args_of : Modifier → List Modifier
args_of m = listed (out-Modifier m).args

-- the first argument of this name
abbrev pub first : List ℕ → List Modifier → Option Modifier
first name [] = None
first name (m ∷ ms) = cond (bytes_eq (name_of m) name) (Some m) (first name ms)

-- what arguments give the parameter of this name behind these steps
abbrev pub given : List Modifier → List Step → List ℕ → Option Expr
given args [] name = option_and_then value_of (first name args)
given args (s ∷ rest) name = option_and_then (λ m. given (args_of m) rest name) (first s.name args)

abbrev pub is_each : Option Modifier → Bool
is_each None = false
is_each (Some m) = each_of m

abbrev pub args_in : Option Modifier → List Modifier
args_in None = []
args_in (Some m) = args_of m

-- A step is left out where the next name was given with `each` in its arguments: for the step with these arguments, and then for each
-- of these steps, whether something else is so.
abbrev pub eaches : List Modifier → List Step → List ℕ → List Bool
eaches args [] name = is_each (first name args) ∷ []
eaches args (s ∷ rest) name = is_each (first s.name args) ∷ eaches (args_in (first s.name args)) rest name

-- of the lists that stand beside these, those that are not left out, one after the other
abbrev pub not_left_out : {A : Type 0} → List Bool → List (List A) → List A
not_left_out outs [] = []
not_left_out [] (l ∷ ls) = []
not_left_out (out ∷ outs) (l ∷ ls) = cond out [] l ++ not_left_out outs ls
