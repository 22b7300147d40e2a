-- What blocks of Integers compute.
use Rattle.std.specs.Prelude.{ℤ, Bool}
use Rattle.cdl_values.specs.History.{Meaning, integer, word}
use Rattle.cdl_kinds.specs.Meaning.Integers.{sum_of, difference_of, product_of, is_equal, is_greater, is_greater_equal, is_less, is_less_equal}
use Rattle.cdl_values.specs.Extremes.{greater_of, lesser_of}
use Rattle.cdl_memoryless.specs.declared.integers.IntegerOp.{IntegerOp}
use Rattle.cdl_memoryless.specs.declared.integers.IntegerOp.TheVariants.{Add, Subtract, Multiply, Max, Min}
use Rattle.cdl_memoryless.specs.declared.integers.ComparisonOp.{ComparisonOp}
use Rattle.cdl_memoryless.specs.declared.integers.ComparisonOp.TheVariants.{Equal, Greater, GreaterEqual, Less, LessEqual}

abbrev pub integer_function : IntegerOp → ℤ → ℤ → ℤ
integer_function Add = sum_of
integer_function Subtract = difference_of
integer_function Multiply = product_of
integer_function Max = greater_of
integer_function Min = lesser_of

-- a function of the input and a parameter
abbrev pub integer_with : (ℤ → ℤ → ℤ) → ℤ → Meaning
integer_with f p h now x = integer (f (word x 0) p)

abbrev pub comparison_function : ComparisonOp → ℤ → ℤ → Bool
comparison_function Equal = is_equal
comparison_function Greater = is_greater
comparison_function GreaterEqual = is_greater_equal
comparison_function Less = is_less
comparison_function LessEqual = is_less_equal
