-- Arithmetic and comparisons of numbers. An Integer beside a Real counts as a Real; then both are Real.
use Rattle.std.specs.Prelude.{ℤ, pos, ◌+ℤ◌, ◌-ℤ◌, ◌*ℤ◌, Bool, Option, Ok, Err}
use Rattle.std.specs.Int.{int_min, int_max}
use Rattle.std.specs.Int.RustNames.{int_lt, int_le}
use Rattle.std.specs.Ordering.{int_eq}
use Rattle.cdl_decimal.specs.Near.{in_integer_range}
use Rattle.cdl_decimal.specs.Counts.{real_add, real_sub, real_mul, real_div}
use Rattle.cdl_values.specs.declared.value.Value.{Value}
use Rattle.cdl_values.specs.declared.value.Value.TheVariants.{Integer, Real}
use Rattle.cdl_array.specs.declared.numbers.Numbers.{Numbers}
use Rattle.cdl_array.specs.declared.numbers.Numbers.TheVariants.{Integers, Reals}
use Rattle.cdl_source.specs.declared.rules.TheConstants.{WRONG_TYPE, NO_VALUE}
use Rattle.cdl_array.specs.Outcomes.{Outcome, some_or}

-- the count of a whole number as a Real
abbrev pub millionths : ℤ → ℤ
millionths z = z *ℤ pos 1000000

-- two values as numbers of one type
unfoldable pub numbers_of : Value → Value → Outcome Numbers
numbers_of (Integer a) (Integer b) = Ok (Integers a b)
numbers_of (Integer a) (Real b) = Ok (Reals (millionths a) b)
numbers_of (Real a) (Integer b) = Ok (Reals a (millionths b))
numbers_of (Real a) (Real b) = Ok (Reals a b)
numbers_of _ _ = Err WRONG_TYPE

-- an Integer, and a Real, if there is one in range
abbrev pub integer_value : ℤ → Outcome Value
integer_value z = some_or (in_integer_range z) NO_VALUE (λ n. Ok (Integer n))

abbrev pub real_value : Option ℤ → Outcome Value
real_value x = some_or x NO_VALUE (λ n. Ok (Real n))

-- the sum, the difference and the product are of the type of the operands, the quotient is a Real
unfoldable pub sum_of : Numbers → Outcome Value
sum_of (Integers a b) = integer_value (a +ℤ b)
sum_of (Reals a b) = real_value (real_add a b)

unfoldable pub difference_of : Numbers → Outcome Value
difference_of (Integers a b) = integer_value (a -ℤ b)
difference_of (Reals a b) = real_value (real_sub a b)

unfoldable pub product_of : Numbers → Outcome Value
product_of (Integers a b) = integer_value (a *ℤ b)
product_of (Reals a b) = real_value (real_mul a b)

unfoldable pub quotient_of : Numbers → Outcome Value
quotient_of (Integers a b) = real_value (real_div (millionths a) (millionths b))
quotient_of (Reals a b) = real_value (real_div a b)

-- comparisons
abbrev pub is_less : Numbers → Bool
is_less (Integers a b) = int_lt a b
is_less (Reals a b) = int_lt a b

abbrev pub is_less_or_equal : Numbers → Bool
is_less_or_equal (Integers a b) = int_le a b
is_less_or_equal (Reals a b) = int_le a b

abbrev pub is_greater : Numbers → Bool
is_greater (Integers a b) = int_lt b a
is_greater (Reals a b) = int_lt b a

abbrev pub is_greater_or_equal : Numbers → Bool
is_greater_or_equal (Integers a b) = int_le b a
is_greater_or_equal (Reals a b) = int_le b a

abbrev pub is_equal : Numbers → Bool
is_equal (Integers a b) = int_eq a b
is_equal (Reals a b) = int_eq a b

-- the lesser and the greater of the two
abbrev pub lesser_of : Numbers → Value
lesser_of (Integers a b) = Integer (int_min a b)
lesser_of (Reals a b) = Real (int_min a b)

abbrev pub greater_of : Numbers → Value
greater_of (Integers a b) = Integer (int_max a b)
greater_of (Reals a b) = Real (int_max a b)
