-- Values that have the types and the shapes of the parameters of a kind.
use Rattle.std.specs.Prelude.{ℕ, ℤ, ◌==◌, Bool, true, false, not, ◌&&◌, ◌||◌, List, [], ◌∷◌, length, nat_le, unsigned_abs}
use Rattle.std.specs.List.{list_all}
use Rattle.cdl_source.specs.declared.limits.TheConstants.{LARGEST_INTEGER, LARGEST_REAL}
use Rattle.cdl_values.specs.declared.value.Value.{Value}
use Rattle.cdl_values.specs.declared.value.Value.TheVariants.{Boolean, Integer, Real, Str, Enumeration}
use Rattle.cdl_values.specs.declared.value.ValueType.{ValueType}
use Rattle.cdl_values.specs.declared.value.ValueType.TheVariants as type
use Rattle.cdl_values.specs.declared.value.Array.{Array}
use Rattle.cdl_values.specs.Values.{integer_at, items_of}
use Rattle.cdl_array.specs.Types.{same_type}
use Rattle.cdl_kinds.specs.declared.kind.Kind.{Kind}
use Rattle.cdl_kinds.specs.Table.{ParameterRow}
use Rattle.cdl_kinds.specs.Parameters.{parameters}
use Rattle.cdl_kinds.specs.Conditions.{is_count}

-- one size, which is this
abbrev pub is_size : List ℕ → ℕ → Bool
is_size [] n = false
is_size (m ∷ []) n = m == n
is_size (m ∷ l ∷ more) n = false

-- no size; or one for each of nin inputs, where nin is a count
abbrev pub has_shape : ℤ → Bool → List ℕ → Bool
has_shape nin false shape = length shape == 0
has_shape nin true shape = not (is_count nin) || is_size shape (unsigned_abs nin)

-- a value of that type
abbrev pub is_of : ValueType → Value → Bool
is_of type.Boolean (Boolean b) = true
is_of type.Integer (Integer z) = nat_le (unsigned_abs z) LARGEST_INTEGER
is_of type.Real (Real z) = nat_le (unsigned_abs z) LARGEST_REAL
is_of type.Str (Str t) = true
is_of (type.Enumeration c) (Enumeration d o) = c == d
is_of _ _ = false

-- at most two sizes, as many items as they say, each of the type
abbrev pub is_array : Array → Bool
is_array a = nat_le (length a.shape) 2 && (length a.items == items_of a.shape && list_all (is_of a.value_type) a.items)

abbrev pub fits_row : ℤ → ParameterRow → Array → Bool
fits_row nin r a = same_type a.value_type r.value_type && (has_shape nin r.per_nin a.shape && is_array a)

abbrev pub fit_rows : ℤ → List ParameterRow → List Array → Bool
fit_rows nin [] [] = true
fit_rows nin [] (a ∷ v) = false
fit_rows nin (r ∷ rs) [] = false
fit_rows nin (r ∷ rs) (a ∷ v) = fits_row nin r a && fit_rows nin rs v

-- one value for each parameter of the kind, in the table's order, of its type and shape
abbrev pub fit : Kind → List Array → Bool
fit k v = fit_rows (integer_at v 0) (parameters k) v
