-- Values, arrays of them, and what stands in a list of arrays.
use Rattle.std.specs.Prelude.{ℕ, ◌*◌, ◌≤◌, ◌≡◌, ℤ, pos, Bool, false, List, [], ◌∷◌, length, map, unsigned_abs, Option, Some, None, slice_get, All}
use Rattle.cdl_source.specs.declared.limits.TheConstants.{LARGEST_INTEGER}
use Rattle.cdl_decimal.specs.Near.{InRange}
use Rattle.cdl_values.specs.declared.value.Array.{Array}
use Rattle.cdl_values.specs.declared.value.Value.{Value}
use Rattle.cdl_values.specs.declared.value.Value.TheVariants.{Boolean, Integer, Real, Str, Enumeration}
use Rattle.cdl_values.specs.declared.value.ValueType.{ValueType}
use Rattle.cdl_values.specs.declared.value.ValueType.TheVariants.{Boolean as BooleanType, Integer as IntegerType, Real as RealType, Str as StrType, Enumeration as EnumerationType}

-- a value of that type; an Integer has a magnitude of at most 2,147,483,647
abbrev pub IsOf : ValueType → Value → Type 0
IsOf BooleanType (Boolean b) = Unit {0}
IsOf IntegerType (Integer z) = unsigned_abs z ≤ LARGEST_INTEGER
IsOf RealType (Real z) = InRange z
IsOf StrType (Str t) = Unit {0}
IsOf (EnumerationType c) (Enumeration d o) = c ≡ d
IsOf _ _ = ⊥

-- an Integer has a magnitude of at most 2,147,483,647
abbrev pub HasIntegers : Value → Type 0
HasIntegers (Integer z) = unsigned_abs z ≤ LARGEST_INTEGER
HasIntegers _ = Unit {0}

-- so has each Integer in these arrays
abbrev pub HaveIntegers : List Array → Type 0
HaveIntegers v = All (λ a. All HasIntegers a.items) v

-- how many items an array of that shape has
abbrev pub items_of : List ℕ → ℕ
items_of [] = 1
items_of (n ∷ ns) = n * items_of ns

-- an array: no size, one or two, as many items as they say, and each of the type
pub record IsArray (a : Array) : Type 0 where
  pub sizes : length a.shape ≤ 2
  pub count : length a.items ≡ items_of a.shape
  pub each : All (IsOf a.value_type) a.items

-- the Boolean, the Integer, the count of the Real; false and 0 at a value of another type, which no clause asks for
abbrev pub boolean_of : Value → Bool
boolean_of (Boolean b) = b
boolean_of _ = false

abbrev pub integer_of : Value → ℤ
integer_of (Integer z) = z
integer_of _ = pos 0

abbrev pub real_of : Value → ℤ
real_of (Real z) = z
real_of _ = pos 0

-- the items of the array of that number
abbrev pub items_in : Option Array → List Value
items_in None = []
items_in (Some a) = a.items

abbrev pub items_at : List Array → ℕ → List Value
items_at v i = items_in (slice_get v i)

-- the first item of the array of that number
abbrev pub first : {X : Type 0} → (Value → X) → X → List Value → X
first f d [] = d
first f d (x ∷ xs) = f x

abbrev pub boolean_at : List Array → ℕ → Bool
boolean_at v i = first boolean_of false (items_at v i)

abbrev pub integer_at : List Array → ℕ → ℤ
integer_at v i = first integer_of (pos 0) (items_at v i)

abbrev pub real_at : List Array → ℕ → ℤ
real_at v i = first real_of (pos 0) (items_at v i)

-- all items of the array of that number
abbrev pub integers_at : List Array → ℕ → List ℤ
integers_at v i = map integer_of (items_at v i)

abbrev pub reals_at : List Array → ℕ → List ℤ
reals_at v i = map real_of (items_at v i)
