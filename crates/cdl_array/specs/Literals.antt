-- Array literals.
use Rattle.std.specs.Prelude.{ℕ, Bool, ◌&&◌, List, [], ◌∷◌, length, nat_le, Ok, Err}
use Rattle.std.specs.List.{list_all, flat_map}
use Rattle.std.specs.Str.{bytes_eq}
use Rattle.cdl_values.specs.declared.value.Array.{Array}
use Rattle.cdl_values.specs.declared.value.Value.{Value}
use Rattle.cdl_values.specs.declared.value.ValueType.{ValueType}
use Rattle.cdl_source.specs.declared.limits.TheConstants.{LARGEST_SIZE}
use Rattle.cdl_source.specs.declared.rules.TheConstants.{WRONG_SHAPE, SIZE_OUT_OF_RANGE}
use Rattle.cdl_array.specs.Outcomes.{Outcome, then_to, holds_or}
use Rattle.cdl_array.specs.Sizes.{count_of}
use Rattle.cdl_array.specs.Types.{common_type, values_as}

abbrev pub have_shape : List ℕ → List Array → Bool
have_shape shape arrays = list_all (λ a. bytes_eq a.shape shape) arrays

-- the items of all, as values of this type
abbrev pub items_as : ValueType → List Array → List Value
items_as t arrays = flat_map (λ a. values_as t a.items) arrays

-- the arrays of this shape, one after the other, as values of this type, where they have at most 65,536 items together
abbrev pub counted : ValueType → List ℕ → List Array → Outcome Array
counted t shape arrays =
    then_to (count_of (length arrays ∷ shape)) (λ n. Ok (record { value_type = t; shape = length arrays ∷ shape; items = items_as t arrays }))

-- What the items of an array literal make, of which the first has this type and this shape. All are scalars or arrays of one
-- dimension, of one shape; then all have one type, or are numbers; then there are at most 4096, of 65,536 items together.
abbrev pub literal_like : ValueType → List ℕ → List Array → Outcome Array
literal_like first shape arrays =
    holds_or (nat_le (length shape) 1 && have_shape shape arrays) WRONG_SHAPE
    (then_to (common_type first arrays) (λ t.
    holds_or (nat_le (length arrays) LARGEST_SIZE) SIZE_OUT_OF_RANGE (counted t shape arrays)))

-- no items have no shape
abbrev pub literal : List Array → Outcome Array
literal [] = Err WRONG_SHAPE
literal (a ∷ more) = literal_like a.value_type a.shape (a ∷ more)
