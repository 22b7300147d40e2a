-- The functions.
use Rattle.std.specs.Prelude.{ℕ, ◌-◌, ℤ, pos, Bool, true, false, ◌||◌, ◌==◌, cond, List, [], ◌∷◌, length, map, Option, Some, None, unsigned_abs, slice_get, codes, replicate, Ok, Err}
use Rattle.std.specs.Int.RustNames.{int_le}
use Rattle.std.specs.Str.{bytes_eq}
use Rattle.cdl_decimal.specs.Near.{in_range}
use Rattle.cdl_decimal.specs.Counts.{real_floor_integer, total}
use Rattle.cdl_values.specs.Values.{integer_of, real_of}
use Rattle.cdl_values.specs.Extremes.{least, greatest}
use Rattle.cdl_values.specs.declared.value.Array.{Array}
use Rattle.cdl_values.specs.declared.value.Value.{Value}
use Rattle.cdl_values.specs.declared.value.Value.TheVariants.{Integer, Real}
use Rattle.cdl_values.specs.declared.value.ValueType.{ValueType}
use Rattle.cdl_values.specs.declared.value.ValueType.TheVariants.{Integer as IntegerType, Real as RealType}
use Rattle.cdl_array.specs.declared.functions.Function.{Function}
use Rattle.cdl_array.specs.declared.functions.Function.TheVariants.{Abs, Min, Max, Sum, Size, Fill, Floor}
use Rattle.cdl_source.specs.declared.rules.TheConstants.{WRONG_SHAPE, WRONG_TYPE, UNKNOWN_NAME, NO_VALUE}
use Rattle.cdl_array.specs.Outcomes.{Outcome, then_to, some_or, holds_or}
use Rattle.cdl_array.specs.Scalars.{scalar_of, scalar}
use Rattle.cdl_array.specs.declared.numbers.Numbers.{Numbers}
use Rattle.cdl_array.specs.Numbers.{numbers_of, integer_value, real_value, lesser_of, greater_of}
use Rattle.cdl_array.specs.Sizes.{size_of, count_of}
use Rattle.cdl_array.specs.Types.{is_number}

-- the functions, by their names
unfoldable pub function_named : List ℕ → Option Function
function_named name =
    cond (bytes_eq name (codes "abs")) (Some Abs)
    (cond (bytes_eq name (codes "min")) (Some Min)
    (cond (bytes_eq name (codes "max")) (Some Max)
    (cond (bytes_eq name (codes "sum")) (Some Sum)
    (cond (bytes_eq name (codes "size")) (Some Size)
    (cond (bytes_eq name (codes "fill")) (Some Fill)
    (cond (bytes_eq name (codes "integer")) (Some Floor) None))))))

-- the numbers of arguments that a function takes
unfoldable pub takes : Function → ℕ → Bool
takes Abs n = n == 1
takes Min n = (n == 1) || (n == 2)
takes Max n = (n == 1) || (n == 2)
takes Sum n = n == 1
takes Size n = n == 2
takes Fill n = (n == 2) || (n == 3)
takes Floor n = n == 1

-- a scalar function: the wrong shape where the argument is no scalar
abbrev pub of_scalar : (Value → Outcome Value) → Array → Outcome Array
of_scalar f a = some_or (scalar_of a) WRONG_SHAPE (λ x. then_to (f x) (λ v. Ok (scalar v)))

-- `abs(x)`, of the type of x
unfoldable pub magnitude : Value → Outcome Value
magnitude (Integer z) = integer_value (pos (unsigned_abs z))
magnitude (Real z) = real_value (in_range (pos (unsigned_abs z)))
magnitude _ = Err WRONG_TYPE

-- `integer(x)`: the greatest whole number not above x
unfoldable pub floor : Value → Outcome Value
floor (Integer z) = Ok (Integer z)
floor (Real z) = some_or (real_floor_integer z) NO_VALUE (λ n. Ok (Integer n))
floor _ = Err WRONG_TYPE

-- `min(a, b)` and `max(a, b)`: two scalars, as numbers of one type
abbrev pub of_two : (Numbers → Value) → Array → Array → Outcome Array
of_two f a b =
    some_or (scalar_of a) WRONG_SHAPE (λ x. some_or (scalar_of b) WRONG_SHAPE (λ y. then_to (numbers_of x y) (λ n. Ok (scalar (f n)))))

-- the greater of the two numbers, or the lesser
abbrev pub chosen : Bool → Numbers → Value
chosen greatest n = cond greatest (greater_of n) (lesser_of n)

-- the count that an item of this type has: a whole number, or millionths
abbrev pub count_in : ValueType → Value → ℤ
count_in IntegerType v = integer_of v
count_in _ v = real_of v

-- the number of this type that has this count, if it is in range
unfoldable pub number_of : ValueType → ℤ → Outcome Value
number_of IntegerType z = integer_value z
number_of RealType z = real_value (in_range z)
number_of _ z = Err WRONG_TYPE

abbrev pub counts_in : ValueType → List Value → List ℤ
counts_in t vs = map (count_in t) vs

-- the items of a row of numbers: an array of one dimension, and then of Integers or Reals
unfoldable pub row_of : Array → Outcome (List Value)
row_of a = holds_or (length a.shape == 1) WRONG_SHAPE (holds_or (is_number a.value_type) WRONG_TYPE (Ok a.items))

-- the number of the type of a row that this gives of its counts
abbrev pub row_value : (List ℤ → Outcome ℤ) → Array → Outcome Value
row_value f a = then_to (row_of a) (λ vs. then_to (f (counts_in a.value_type vs)) (number_of a.value_type))

abbrev pub of_row : (List ℤ → Outcome ℤ) → Array → Outcome Array
of_row f a = then_to (row_value f a) (λ v. Ok (scalar v))

-- `min(v)` and `max(v)` of a row that is not empty
abbrev pub of_some : (List ℤ → ℤ) → List ℤ → Outcome ℤ
of_some f [] = Err NO_VALUE
of_some f (z ∷ zs) = Ok (f (z ∷ zs))

-- `sum(v)`, in full
abbrev pub of_all : List ℤ → Outcome ℤ
of_all zs = Ok (total zs)

-- `size(x, i)`: the size of the i-th dimension, counted from 1
abbrev pub dimension : List ℕ → ℤ → Option ℕ
dimension shape z = cond (int_le (pos 1) z) (slice_get shape (unsigned_abs z - 1)) None

unfoldable pub dimension_value : List ℕ → Value → Outcome Value
dimension_value shape (Integer z) = some_or (dimension shape z) WRONG_SHAPE (λ n. integer_value (pos n))
dimension_value shape _ = Err WRONG_TYPE

-- an array of this shape and of equal items, of which there are few enough
abbrev pub filled_shape : ValueType → Value → List ℕ → Outcome Array
filled_shape t v shape = then_to (count_of shape) (λ n. Ok (record { value_type = t; shape = shape; items = replicate n v }))

-- `fill(x, n)` and `fill(x, n, m)`: x is a scalar; then each size, whole; then the items are few enough
abbrev pub filled_row : Array → Array → Outcome Array
filled_row x n = some_or (scalar_of x) WRONG_SHAPE (λ v. then_to (size_of n) (λ size. filled_shape x.value_type v (size ∷ [])))

abbrev pub filled_rows : Array → Array → Array → Outcome Array
filled_rows x n m =
    some_or (scalar_of x) WRONG_SHAPE (λ v. then_to (size_of n) (λ rows. then_to (size_of m) (λ columns. filled_shape x.value_type v (rows ∷ columns ∷ []))))

-- a function of these arguments; it takes no other number of them
abbrev pub call : Function → List Array → Outcome Array
call Abs (a ∷ []) = of_scalar magnitude a
call Min (a ∷ []) = of_row (of_some least) a
call Min (a ∷ b ∷ []) = of_two (chosen false) a b
call Max (a ∷ []) = of_row (of_some greatest) a
call Max (a ∷ b ∷ []) = of_two (chosen true) a b
call Sum (a ∷ []) = of_row of_all a
call Size (a ∷ i ∷ []) = of_scalar (dimension_value a.shape) i
call Fill (a ∷ n ∷ []) = filled_row a n
call Fill (a ∷ n ∷ m ∷ []) = filled_rows a n m
call Floor (a ∷ []) = of_scalar floor a
call _ _ = Err UNKNOWN_NAME
