-- The operators. Their operands are scalars, else it is the wrong shape; then they have types that the operator takes, else it is
-- the wrong type; then there is a value in range, or none.
use Rattle.std.specs.Prelude.{pos, ◌-ℤ◌, Bool, true, false, not, ◌&&◌, ◌||◌, ◌==◌, cond, Option, Some, None, Ok, Err}
use Rattle.std.specs.Str.{bytes_eq}
use Rattle.std.specs.Bool.{beq}
use Rattle.cdl_decimal.specs.Counts.{real_sub}
use Rattle.cdl_values.specs.declared.value.Array.{Array}
use Rattle.cdl_values.specs.declared.value.Value.{Value}
use Rattle.cdl_values.specs.declared.value.Value.TheVariants.{Boolean, Integer, Real, Str, Enumeration}
use Rattle.cdl_tree.specs.declared.expr.Op.{Op}
use Rattle.cdl_tree.specs.declared.expr.Op.TheVariants.{Plus, Minus, Times, Divide, Less, LessEqual, Greater, GreaterEqual, Equal, NotEqual, And, Or, Not}
use Rattle.cdl_array.specs.declared.numbers.Numbers.{Numbers}
use Rattle.cdl_source.specs.declared.rules.TheConstants.{WRONG_SHAPE, WRONG_TYPE}
use Rattle.cdl_array.specs.Outcomes.{Outcome, then_to, some_or, holds_or}
use Rattle.cdl_array.specs.Scalars.{scalar_of, scalar}
use Rattle.cdl_array.specs.Numbers.{numbers_of, integer_value, real_value, sum_of, difference_of, product_of, quotient_of, is_less, is_less_or_equal, is_greater, is_greater_or_equal, is_equal}

-- an operation on two numbers
abbrev pub of_numbers : (Numbers → Outcome Value) → Value → Value → Outcome Value
of_numbers f x y = then_to (numbers_of x y) f

abbrev pub truth : (Numbers → Bool) → Numbers → Outcome Value
truth f n = Ok (Boolean (f n))

-- whether two Booleans, two Strings, two values of one enumeration or two numbers are the same
unfoldable pub are_equal : Value → Value → Outcome Bool
are_equal (Boolean a) (Boolean b) = Ok (beq a b)
are_equal (Str s) (Str t) = Ok (bytes_eq s t)
are_equal (Enumeration c i) (Enumeration d j) = holds_or (c == d) WRONG_TYPE (Ok (i == j))
are_equal x y = then_to (numbers_of x y) (λ n. Ok (is_equal n))

-- both, and one of two Booleans
unfoldable pub conjunction : Value → Value → Outcome Value
conjunction (Boolean a) (Boolean b) = Ok (Boolean (a && b))
conjunction _ _ = Err WRONG_TYPE

unfoldable pub disjunction : Value → Value → Outcome Value
disjunction (Boolean a) (Boolean b) = Ok (Boolean (a || b))
disjunction _ _ = Err WRONG_TYPE

-- the operators of two operands; `not` is none
unfoldable pub binary_value : Op → Value → Value → Outcome Value
binary_value Plus x y = of_numbers sum_of x y
binary_value Minus x y = of_numbers difference_of x y
binary_value Times x y = of_numbers product_of x y
binary_value Divide x y = of_numbers quotient_of x y
binary_value Less x y = of_numbers (truth is_less) x y
binary_value LessEqual x y = of_numbers (truth is_less_or_equal) x y
binary_value Greater x y = of_numbers (truth is_greater) x y
binary_value GreaterEqual x y = of_numbers (truth is_greater_or_equal) x y
binary_value Equal x y = then_to (are_equal x y) (λ b. Ok (Boolean b))
binary_value NotEqual x y = then_to (are_equal x y) (λ b. Ok (Boolean (not b)))
binary_value And x y = conjunction x y
binary_value Or x y = disjunction x y
binary_value Not x y = Err WRONG_TYPE

abbrev pub binary : Op → Array → Array → Outcome Array
binary op a b =
    some_or (scalar_of a) WRONG_SHAPE (λ x. some_or (scalar_of b) WRONG_SHAPE (λ y. then_to (binary_value op x y) (λ v. Ok (scalar v))))

-- the operators of one operand: `+`, `-` and `not`
unfoldable pub unary_value : Op → Value → Outcome Value
unary_value Plus (Integer z) = Ok (Integer z)
unary_value Plus (Real z) = Ok (Real z)
unary_value Minus (Integer z) = integer_value (pos 0 -ℤ z)
unary_value Minus (Real z) = real_value (real_sub (pos 0) z)
unary_value Not (Boolean b) = Ok (Boolean (not b))
unary_value _ _ = Err WRONG_TYPE

abbrev pub unary : Op → Array → Outcome Array
unary op a = some_or (scalar_of a) WRONG_SHAPE (λ x. then_to (unary_value op x) (λ v. Ok (scalar v)))

-- what the left side of an operator says alone: false decides `and`, true decides `or`; else the right side is needed too
unfoldable pub decided_value : Op → Value → Outcome (Option Bool)
decided_value And (Boolean b) = Ok (cond b None (Some false))
decided_value Or (Boolean b) = Ok (cond b (Some true) None)
decided_value _ _ = Err WRONG_TYPE

unfoldable pub is_logical : Op → Bool
is_logical And = true
is_logical Or = true
is_logical _ = false

abbrev pub decided : Op → Array → Outcome (Option Bool)
decided op a = cond (is_logical op) (some_or (scalar_of a) WRONG_SHAPE (decided_value op)) (Ok None)

-- a condition is a Boolean scalar; anything else has the wrong type, also an array
abbrev pub truth_of : Value → Outcome Bool
truth_of (Boolean b) = Ok b
truth_of _ = Err WRONG_TYPE

abbrev pub condition : Array → Outcome Bool
condition a = some_or (scalar_of a) WRONG_TYPE truth_of
