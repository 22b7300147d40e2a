-- The Integers among the values of a kind's parameters are in range.
use Rattle.std.proofs.Common.{ℕ, zero, suc, ◌≤◌, ℤ, List, [], ◌∷◌, arith}
use Rattle.std.specs.Prelude.{unsigned_abs, pos, slice_index_or, All}
use Rattle.cdl_values.specs.declared.value.Array.{Array}
use Rattle.cdl_values.specs.declared.value.Value.{Value}
use Rattle.cdl_values.specs.declared.value.Value.TheVariants.{Boolean, Integer, Real, Str, Enumeration}
use Rattle.cdl_values.specs.declared.value.ValueType.{ValueType}
use Rattle.cdl_values.specs.declared.value.ValueType.TheVariants.{Boolean as BooleanType, Integer as IntegerType, Real as RealType, Str as StrType, Enumeration as EnumerationType}
use Rattle.cdl_kinds.specs.declared.kind.Kind.{Kind}
use Rattle.cdl_kinds.specs.Conditions.{Fits, FitRows}
use Rattle.cdl_kinds.specs.Table.{ParameterRow}
use Rattle.cdl_kinds.specs.Parameters.{parameters}
use Rattle.cdl_values.specs.Values.{HasIntegers, HaveIntegers, IsOf, first, integer_of, integer_at}

value_small : (x : Value) → HasIntegers x → unsigned_abs (integer_of x) ≤ 2147483647
value_small (Boolean b) h = omega arith
value_small (Integer z) h = h
value_small (Real z) h = omega arith
value_small (Str t) h = omega arith
value_small (Enumeration c o) h = omega arith

first_small : (xs : List Value) → All HasIntegers xs → unsigned_abs (first integer_of (pos 0) xs) ≤ 2147483647
first_small [] h = omega arith
first_small (x ∷ xs) h = value_small x (h 0 x (omega arith))

pub at_small : (v : List Array) (i : ℕ) → HaveIntegers v → unsigned_abs (integer_at v i) ≤ 2147483647
at_small [] i h = omega arith
at_small (a ∷ v) zero h = first_small a.items (h 0 a (omega arith))
at_small (a ∷ v) (suc i) h = at_small v i (λ k d l. h (suc k) d (omega arith))

value_fits : (t : ValueType) (x : Value) → IsOf t x → HasIntegers x
value_fits t (Boolean b) h = tt
value_fits BooleanType (Integer z) h = absurd h
value_fits IntegerType (Integer z) h = h
value_fits RealType (Integer z) h = absurd h
value_fits StrType (Integer z) h = absurd h
value_fits (EnumerationType c) (Integer z) h = absurd h
value_fits t (Real z) h = tt
value_fits t (Str s) h = tt
value_fits t (Enumeration c o) h = tt

items_fit : (t : ValueType) (xs : List Value) → All (IsOf t) xs → All HasIntegers xs
items_fit t xs h = λ k d l. value_fits t (slice_index_or xs k d) (h k d l)

all_cons : (a : Array) (v : List Array) → All HasIntegers a.items → HaveIntegers v → HaveIntegers (a ∷ v)
all_cons a v p q zero d l = p
all_cons a v p q (suc k) d l = q k d (omega arith)

rows_fit : (nin : ℤ) (rs : List ParameterRow) (v : List Array) → FitRows nin rs v → HaveIntegers v
rows_fit nin [] [] h = λ k d l. absurd (omega arith)
rows_fit nin [] (a ∷ v) h = absurd h
rows_fit nin (r ∷ rs) [] h = absurd h
rows_fit nin (r ∷ rs) (a ∷ v) h = all_cons a v (items_fit a.value_type a.items h.0.array.each) (rows_fit nin rs v h.1)

pub fits_small : (k : Kind) (v : List Array) → Fits k v → HaveIntegers v
fits_small k v h = rows_fit (integer_at v 0) (parameters k) v h.rows
