-- Values that blocks keep, as words.
use Rattle.std.specs.Prelude.{ℕ, ℤ, Bool, true, cond}
use Rattle.cdl_values.specs.declared.value.ValueType.{ValueType}
use Rattle.cdl_values.specs.declared.value.ValueType.TheVariants.{Boolean as BooleanType, Integer as IntegerType, Real as RealType}
use Rattle.cdl_values.specs.History.{Signature, Meaning, bit}
use Rattle.cdl_kinds.specs.Meaning.Conversions.{choice}
use Rattle.cdl_memoryless.specs.declared.scalar.Scalar.{Scalar}
use Rattle.cdl_memoryless.specs.declared.scalar.Scalar.TheVariants.{Boolean, Integer, Real}
use Rattle.cdl_memoryless.specs.declared.sources.Choice.{Choice}
use Rattle.cdl_memoryless.specs.declared.sources.Choice.TheVariants.{Integer as IntegerChoice, Real as RealChoice}

-- the type of a value, and its word
abbrev pub scalar_sort : Scalar → ValueType
scalar_sort (Boolean b) = BooleanType
scalar_sort (Integer z) = IntegerType
scalar_sort (Real x) = RealType

abbrev pub scalar_word : Scalar → ℤ
scalar_word (Boolean b) = bit b
scalar_word (Integer z) = z
scalar_word (Real x) = x

-- the type of two values, the word of one of them, and what the choice between them means
abbrev pub choice_sort : Choice → ValueType
choice_sort (IntegerChoice a b) = IntegerType
choice_sort (RealChoice a b) = RealType

abbrev pub choice_word : Choice → Bool → ℤ
choice_word (IntegerChoice a b) u = cond u a b
choice_word (RealChoice a b) u = cond u a b

abbrev pub choice_meaning : Choice → Meaning
choice_meaning (IntegerChoice a b) = choice a b
choice_meaning (RealChoice a b) = choice a b

-- so many of one type
abbrev pub copies : ValueType → ℕ → Signature
copies t n = record { count = n; value_type = λ _. t; direct = λ _. true }
