-- The values of the parameters of a kind are in range.
use Rattle.std.proofs.Common.{ℕ, zero, suc, ◌≤◌, ◌<◌, ◌≡◌, ℤ, List, [], ◌∷◌, true, arith}
use Rattle.std.specs.Prelude.{All, pos, negsuc, unsigned_abs, ◌<ℤ◌}
use Rattle.std.proofs.lemmas.Int.{ints}
use Rattle.std.proofs.lemmas.Bool.Decides.{nat_tests}
use Rattle.cdl_decimal.specs.Near.{InRange}
use Rattle.cdl_kinds.proofs.Integers.{at_small, fits_small}
use Rattle.cdl_kinds.specs.declared.kind.Kind.{Kind}
use Rattle.cdl_values.specs.declared.value.Array.{Array}
use Rattle.cdl_values.specs.declared.value.Value.{Value}
use Rattle.cdl_values.specs.declared.value.Value.TheVariants.{Boolean, Integer, Real, Str, Enumeration}
use Rattle.cdl_values.specs.declared.value.ValueType.{ValueType}
use Rattle.cdl_values.specs.declared.value.ValueType.TheVariants.{Boolean as BooleanType, Integer as IntegerType, Real as RealType, Str as StrType, Enumeration as EnumerationType}
use Rattle.cdl_kinds.specs.Conditions.{FitRows, Keeps, is_positive, is_window}
use Rattle.cdl_kinds.specs.Table.{ParameterRow}
use Rattle.cdl_kinds.specs.Parameters.{parameters}
use Rattle.cdl_values.specs.Values.{IsOf, first, integer_at, real_at, real_of}

value_in_range : (t : ValueType) (x : Value) → IsOf t x → InRange (real_of x)
value_in_range t (Boolean b) h = omega arith
value_in_range t (Integer z) h = omega arith
value_in_range BooleanType (Real z) h = absurd h
value_in_range IntegerType (Real z) h = absurd h
value_in_range RealType (Real z) h = h
value_in_range StrType (Real z) h = absurd h
value_in_range (EnumerationType c) (Real z) h = absurd h
value_in_range t (Str s) h = omega arith
value_in_range t (Enumeration c o) h = omega arith

first_in_range : (t : ValueType) (xs : List Value) → All (IsOf t) xs → InRange (first real_of (pos 0) xs)
first_in_range t [] h = omega arith
first_in_range t (x ∷ xs) h = value_in_range t x (h 0 x (omega arith))

rows_in_range : (nin : ℤ) (rs : List ParameterRow) (v : List Array) (i : ℕ) → FitRows nin rs v → InRange (real_at v i)
rows_in_range nin [] [] i h = omega arith
rows_in_range nin [] (a ∷ v) i h = absurd h
rows_in_range nin (r ∷ rs) [] i h = absurd h
rows_in_range nin (r ∷ rs) (a ∷ v) zero h = first_in_range a.value_type a.items h.0.array.each
rows_in_range nin (r ∷ rs) (a ∷ v) (suc i) h = rows_in_range nin rs v i h.1

pub real_in_range : (k : Kind) (v : List Array) (i : ℕ) → Keeps k v → InRange (real_at v i)
real_in_range k v i h = rows_in_range (integer_at v 0) (parameters k) v i h.fits.rows

pub integer_in_range : (k : Kind) (v : List Array) (i : ℕ) → Keeps k v → unsigned_abs (integer_at v i) ≤ 2147483647
integer_in_range k v i h = at_small v i (fits_small k v h.fits)

pub positive : (z : ℤ) → is_positive z ≡ true → pos 0 <ℤ z
positive z e = grind (arith, ints, nat_tests)

pub not_empty : (z : ℤ) → is_window z ≡ true → 0 < unsigned_abs z
not_empty (pos n) e = grind (arith, ints, nat_tests)
not_empty (negsuc n) e = omega arith
