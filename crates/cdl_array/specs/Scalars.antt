-- Scalars: arrays without sizes, of one item.
use Rattle.std.specs.Prelude.{ℕ, List, [], ◌∷◌, Option, None, slice_get}
use Rattle.cdl_values.specs.declared.value.Array.{Array}
use Rattle.cdl_values.specs.declared.value.Value.{Value}
use Rattle.cdl_values.specs.declared.value.Value.TheVariants.{Boolean, Integer, Real, Str, Enumeration}
use Rattle.cdl_values.specs.declared.value.ValueType.{ValueType}
use Rattle.cdl_values.specs.declared.value.ValueType.TheVariants.{Boolean as BooleanType, Integer as IntegerType, Real as RealType, Str as StrType, Enumeration as EnumerationType}

abbrev pub first_without_sizes : List ℕ → List Value → Option Value
first_without_sizes [] items = slice_get items 0
first_without_sizes (n ∷ ns) items = None

-- the value of a scalar, and none of an array with sizes
unfoldable pub scalar_of : Array → Option Value
scalar_of a = first_without_sizes a.shape a.items

-- the type of a value
abbrev pub type_of : Value → ValueType
type_of (Boolean b) = BooleanType
type_of (Integer z) = IntegerType
type_of (Real z) = RealType
type_of (Str t) = StrType
type_of (Enumeration c o) = EnumerationType c

-- the scalar of a value
abbrev pub scalar : Value → Array
scalar v = record { value_type = type_of v; shape = []; items = v ∷ [] }
