-- The conditions on the parameters of the kinds.
use Rattle.std.specs.Prelude.{ℕ, suc, ℤ, pos, ◌≡◌, Bool, true, false, not, ◌&&◌, List, [], ◌∷◌, map, Option, None, position, IsTrue, unsigned_abs}
use Rattle.std.specs.Option.{option_map}
use Rattle.std.specs.Int.RustNames.{int_le, int_lt}
use Rattle.cdl_kinds.specs.declared.kind.Kind.{Kind}
use Rattle.cdl_kinds.specs.declared.conditions.Condition.{Condition}
use Rattle.cdl_kinds.specs.declared.conditions.Condition.TheVariants.{Count, Window, NotNegative, Positive, Share, Below}
use Rattle.cdl_values.specs.declared.value.Array.{Array}
use Rattle.cdl_kinds.specs.Table.{ParameterRow, row}
use Rattle.cdl_kinds.specs.Parameters.{parameters}
use Rattle.cdl_values.specs.Values.{integer_at, real_at, IsArray}

-- from 1 to 256
abbrev pub is_count : ℤ → Bool
is_count z = int_le (pos 1) z && int_le z (pos 256)

-- from 1 to 1024
abbrev pub is_window : ℤ → Bool
is_window z = int_le (pos 1) z && int_le z (pos 1024)

-- a count of millionths that is not negative
abbrev pub not_negative : ℤ → Bool
not_negative z = int_le (pos 0) z

-- a count of millionths above 0
abbrev pub is_positive : ℤ → Bool
is_positive z = int_lt (pos 0) z

-- a count of millionths above 0 and below 1
abbrev pub is_share : ℤ → Bool
is_share z = int_lt (pos 0) z && int_lt z (pos 1000000)

-- the condition holds of these values
abbrev pub holds : List Array → Condition → Bool
holds v (Count i) = is_count (integer_at v i)
holds v (Window i) = is_window (integer_at v i)
holds v (NotNegative i) = not_negative (real_at v i)
holds v (Positive i) = is_positive (real_at v i)
holds v (Share i) = is_share (real_at v i)
holds v (Below i j) = int_lt (real_at v i) (real_at v j)

-- which of the conditions of a kind hold of these values, in the table's order
abbrev pub conditions : Kind → List Array → List Bool
conditions k v = map (holds v) (row k).conditions

-- the number of the first condition that is broken, counted from 1
abbrev pub first_broken : List Bool → Option ℕ
first_broken cs = option_map suc (position not cs)

-- a parameter of shape [nin] has that shape where nin keeps its own condition
abbrev pub HasShape : ℤ → Bool → List ℕ → Type 0
HasShape nin false s = s ≡ []
HasShape nin true s = IsTrue (is_count nin) → s ≡ unsigned_abs nin ∷ []

-- a value of the parameter's type and shape
pub record FitsRow (nin : ℤ) (r : ParameterRow) (a : Array) : Type 0 where
  pub value_type : a.value_type ≡ r.value_type
  pub shape : HasShape nin r.per_nin a.shape
  pub array : IsArray a

abbrev pub FitRows : ℤ → List ParameterRow → List Array → Type 0
FitRows nin [] [] = Unit {0}
FitRows nin (r ∷ rs) (a ∷ v) = FitsRow nin r a × FitRows nin rs v
FitRows nin _ _ = ⊥

-- one value for each parameter of the kind, in the table's order, of its type and shape
pub record Fits (k : Kind) (v : List Array) : Type 0 where
  pub rows : FitRows (integer_at v 0) (parameters k) v

-- values that fit and break no condition of the kind
pub record Keeps (k : Kind) (v : List Array) : Type 0 where
  pub fits : Fits k v
  pub holds : first_broken (conditions k v) ≡ None
