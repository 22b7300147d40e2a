-- Items and parts of arrays, by indices that count from 1.
use Rattle.std.specs.Prelude.{ℕ, ◌+◌, ◌-◌, ◌*◌, pos, Bool, ◌&&◌, ◌==◌, cond, List, [], ◌∷◌, length, map, take, drop, Option, Some, None, is_some, slice_get, slice_range, nat_le, Ok}
use Rattle.std.specs.List.{list_all}
use Rattle.cdl_values.specs.Values.{items_of}
use Rattle.cdl_values.specs.declared.value.Array.{Array}
use Rattle.cdl_values.specs.declared.value.Value.{Value}
use Rattle.cdl_values.specs.declared.value.Value.TheVariants.{Integer}
use Rattle.cdl_source.specs.declared.rules.TheConstants.{WRONG_SHAPE, WRONG_TYPE, NO_VALUE}
use Rattle.cdl_array.specs.Outcomes.{Outcome, some_or, holds_or}
use Rattle.cdl_array.specs.Scalars.{scalar_of}

-- an index of this size
abbrev pub is_within : ℕ → ℕ → Bool
is_within n i = nat_le 1 i && nat_le i n

-- where the item of these indices stands in a shape, row by row and counted from 0; none where they are not indices of it
unfoldable pub place : List ℕ → List ℕ → Option ℕ
place [] [] = Some 0
place (n ∷ []) (i ∷ []) = cond (is_within n i) (Some (i - 1)) None
place (n ∷ m ∷ []) (i ∷ j ∷ []) = cond (is_within n i && is_within m j) (Some ((i - 1) * m + (j - 1))) None
place _ _ = None

abbrev pub is_scalar : Array → Bool
is_scalar a = is_some (scalar_of a)

-- a whole number as an index, which none below 1 is
unfoldable pub index_value : Value → Option ℕ
index_value (Integer (pos n)) = Some n
index_value (Integer _) = Some 0
index_value _ = None

-- the subscript that an array is; none where it is no Integer
abbrev pub subscript_of : Array → Option ℕ
subscript_of a = index_in (scalar_of a)
  where
    index_in : Option Value → Option ℕ
    index_in None = None
    index_in (Some v) = index_value v

abbrev pub is_subscript : Array → Bool
is_subscript a = is_some (subscript_of a)

abbrev pub index_of : Array → ℕ
index_of a = some_else (subscript_of a)
  where
    some_else : Option ℕ → ℕ
    some_else None = 0
    some_else (Some n) = n

abbrev pub are_scalars : List Array → Bool
are_scalars subs = list_all is_scalar subs

abbrev pub are_subscripts : List Array → Bool
are_subscripts subs = list_all is_subscript subs

-- where the item of these subscripts stands
abbrev pub place_of : List ℕ → List Array → Option ℕ
place_of shape subs = place shape (map index_of subs)

-- one item, as a scalar
abbrev pub item : Array → Option ℕ → Outcome Array
item a at = some_or at NO_VALUE (λ k. some_or (slice_get a.items k) NO_VALUE (λ v. Ok (record { value_type = a.value_type; shape = []; items = v ∷ [] })))

-- an array with subscripts: as many as it has dimensions, each a scalar; then each an Integer; then each in range
abbrev pub subscript : Array → List Array → Outcome Array
subscript a subs =
    holds_or (length subs == length a.shape && are_scalars subs) WRONG_SHAPE
    (holds_or (are_subscripts subs) WRONG_TYPE
    (item a (place_of a.shape subs)))

-- of values in stretches of so many, the one at that place
abbrev pub stretch : List Value → ℕ → ℕ → List Value
stretch values at count = slice_range values (at * count) (at * count + count)

-- the part of an array that its first indices choose: the items of the other dimensions. The wrong shape where they are not
-- indices of its first dimensions
abbrev pub part : Array → List ℕ → Outcome Array
part a is =
    let rest = drop (length is) a.shape in
    some_or (place (take (length is) a.shape) is) WRONG_SHAPE (λ k. Ok (record { value_type = a.value_type; shape = rest; items = stretch a.items k (items_of rest) }))
