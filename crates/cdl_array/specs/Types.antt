-- Types of arrays, and values as values of another type.
use Rattle.std.specs.Prelude.{Bool, true, false, ◌==◌, cond, List, map, Ok}
use Rattle.std.specs.List.{list_all}
use Rattle.cdl_values.specs.declared.value.Array.{Array}
use Rattle.cdl_values.specs.declared.value.Value.{Value}
use Rattle.cdl_values.specs.declared.value.Value.TheVariants.{Integer, Real}
use Rattle.cdl_values.specs.declared.value.ValueType.{ValueType}
use Rattle.cdl_values.specs.declared.value.ValueType.TheVariants.{Boolean as BooleanType, Integer as IntegerType, Real as RealType, Str as StrType, Enumeration as EnumerationType}
use Rattle.cdl_source.specs.declared.rules.TheConstants.{WRONG_TYPE}
use Rattle.cdl_array.specs.Outcomes.{Outcome, holds_or}
use Rattle.cdl_array.specs.Numbers.{millionths}

unfoldable pub same_type : ValueType → ValueType → Bool
same_type BooleanType BooleanType = true
same_type IntegerType IntegerType = true
same_type RealType RealType = true
same_type StrType StrType = true
same_type (EnumerationType c) (EnumerationType d) = c == d
same_type _ _ = false

-- Integer and Real are the types of numbers
unfoldable pub is_number : ValueType → Bool
is_number IntegerType = true
is_number RealType = true
is_number _ = false

unfoldable pub is_integer : ValueType → Bool
is_integer IntegerType = true
is_integer _ = false

unfoldable pub is_real : ValueType → Bool
is_real RealType = true
is_real _ = false

abbrev pub have_type : ValueType → List Array → Bool
have_type t arrays = list_all (λ a. same_type t a.value_type) arrays

abbrev pub are_numbers : List Array → Bool
are_numbers arrays = list_all (λ a. is_number a.value_type) arrays

-- the type of arrays together, of which the first has this type: the one type that they have, or Real where all are numbers
unfoldable pub common_type : ValueType → List Array → Outcome ValueType
common_type t arrays = cond (have_type t arrays) (Ok t) (holds_or (are_numbers arrays) WRONG_TYPE (Ok RealType))

-- a value as one of this type: an Integer as a Real, any other as it is
unfoldable pub value_as : ValueType → Value → Value
value_as RealType (Integer z) = Real (millionths z)
value_as t v = v

abbrev pub values_as : ValueType → List Value → List Value
values_as t vs = map (value_as t) vs

-- an array where this type is declared: as it is, or Integers as Reals
abbrev pub converted : ValueType → Array → Outcome Array
converted t a = cond (same_type a.value_type t) (Ok a)
    (holds_or (is_integer a.value_type) WRONG_TYPE (holds_or (is_real t) WRONG_TYPE (Ok (record { value_type = t; shape = a.shape; items = values_as t a.items }))))
