-- What blocks of Reals compute, and magnitudes.
use Rattle.std.specs.Prelude.{ℤ, Option, [], ◌∷◌}
use Rattle.cdl_decimal.specs.Counts.{real_add, real_sub, real_mul, real_div, real_modulo, real_mean}
use Rattle.cdl_values.specs.declared.value.ValueType.{ValueType}
use Rattle.cdl_values.specs.declared.value.ValueType.TheVariants.{Integer as IntegerType, Real as RealType}
use Rattle.cdl_values.specs.History.{Meaning, one, word}
use Rattle.cdl_kinds.specs.Meaning.Integers.{integer_of_one, magnitude}
use Rattle.cdl_kinds.specs.Meaning.Reals.{absolute, greater, lesser, real_of_one}
use Rattle.cdl_memoryless.specs.declared.reals.Magnitude.{Magnitude}
use Rattle.cdl_memoryless.specs.declared.reals.Magnitude.TheVariants.{Integer, Real}
use Rattle.cdl_memoryless.specs.declared.reals.RealOp.{RealOp}
use Rattle.cdl_memoryless.specs.declared.reals.RealOp.TheVariants.{Add, Subtract, Multiply, Divide, Modulo, Average, Max, Min}

abbrev pub real_function : RealOp → ℤ → ℤ → Option ℤ
real_function Add = real_add
real_function Subtract = real_sub
real_function Multiply = real_mul
real_function Divide = real_div
real_function Modulo = real_modulo
real_function Average = λ a b. real_mean (a ∷ b ∷ [])
real_function Max = greater
real_function Min = lesser

-- a function of the input and a parameter
abbrev pub real_with : (ℤ → ℤ → Option ℤ) → ℤ → Meaning
real_with f p h now x = one (f (word x 0) p)

-- the type of a magnitude, and what it means
abbrev pub magnitude_sort : Magnitude → ValueType
magnitude_sort Integer = IntegerType
magnitude_sort Real = RealType

abbrev pub magnitude_meaning : Magnitude → Meaning
magnitude_meaning Integer = integer_of_one magnitude
magnitude_meaning Real = real_of_one absolute
