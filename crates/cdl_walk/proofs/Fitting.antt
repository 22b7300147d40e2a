-- Values that have the types and shapes of rows fit them.
use Rattle.std.proofs.Common.{◌≡◌, ◌≤◌, ℕ, ◌==◌, Bool, true, false, List, [], ◌∷◌, length, refl, ap, arith}
use Rattle.std.specs.Prelude.{ℤ, not, ◌&&◌, ◌||◌, All, IsTrue, nat_le, unsigned_abs}
use Rattle.std.specs.List.{list_all}
use Rattle.cdl_source.specs.declared.limits.TheConstants.{LARGEST_INTEGER, LARGEST_REAL}
use Rattle.cdl_values.specs.declared.value.Value.{Value}
use Rattle.cdl_values.specs.declared.value.Value.TheVariants.{Boolean, Integer, Real, Str, Enumeration}
use Rattle.std.proofs.lemmas.Bool.Decides.{nat_tests}
use Rattle.std.proofs.lemmas.List.Elements.{All-nil, All-cons}
use Rattle.cdl_values.specs.declared.value.Array.{Array}
use Rattle.cdl_values.specs.declared.value.ValueType.{ValueType}
use Rattle.cdl_values.specs.declared.value.ValueType.TheVariants as type
use Rattle.cdl_values.specs.Values.{IsArray, IsOf, integer_at, items_of}
use Rattle.cdl_array.specs.Types.{same_type}
use Rattle.cdl_kinds.specs.declared.kind.Kind.{Kind}
use Rattle.cdl_kinds.specs.Table.{ParameterRow}
use Rattle.cdl_kinds.specs.Parameters.{parameters}
use Rattle.cdl_kinds.specs.Conditions.{Fits, FitRows, FitsRow, HasShape, is_count}
use Rattle.cdl_walk.specs.Rows.{is_of, is_array, is_size, has_shape, fits_row, fit_rows, fit}

both : (b c : Bool) → (b && c) ≡ true → (b ≡ true) × (c ≡ true)
both true c h = (refl, h)
both false c h = cc

equal : (m n : ℕ) → (m == n) ≡ true → m ≡ n
equal m n h = grind (arith, nat_tests, h)

types_same : (t u : ValueType) → same_type t u ≡ true → t ≡ u
unfolding same_type
types_same type.Boolean type.Boolean h = refl
types_same type.Integer type.Integer h = refl
types_same type.Real type.Real h = refl
types_same type.Str type.Str h = refl
types_same (type.Enumeration c) (type.Enumeration d) h = ap type.Enumeration (equal c d h)
types_same _ _ h = cc

one_size : (s : List ℕ) (n : ℕ) → is_size s n ≡ true → s ≡ n ∷ []
one_size [] n h = cc
one_size (m ∷ []) n h = ap (λ k. k ∷ []) (equal m n h)
one_size (m ∷ l ∷ more) n h = cc

no_size : (s : List ℕ) → (length s == 0) ≡ true → s ≡ []
no_size [] h = refl
no_size (m ∷ s) h = absurd (let none : length (m ∷ s) ≡ 0 = equal (length (m ∷ s)) 0 h in omega (arith, none))

counted : (b c : Bool) → (not b || c) ≡ true → IsTrue b → c ≡ true
counted true c h t = h
counted false c h t = cc

shaped : (nin : ℤ) (per_nin : Bool) (s : List ℕ) → has_shape nin per_nin s ≡ true → HasShape nin per_nin s
shaped nin false s h = no_size s h
shaped nin true s h = λ t. one_size s (unsigned_abs nin) (counted (is_count nin) (is_size s (unsigned_abs nin)) h t)

no_truth : false ≡ true → ⊥
no_truth h = cc

within : (m n : ℕ) → nat_le m n ≡ true → m ≤ n
within m n h = grind (arith, nat_tests, h)

of_type : (t : ValueType) (v : Value) → is_of t v ≡ true → IsOf t v
of_type type.Boolean (Boolean b) h = tt
of_type type.Integer (Integer z) h = within (unsigned_abs z) LARGEST_INTEGER h
of_type type.Real (Real z) h = within (unsigned_abs z) LARGEST_REAL h
of_type type.Str (Str t) h = tt
of_type (type.Enumeration c) (Enumeration d o) h = equal c d h
of_type _ _ h = absurd (no_truth h)

all_of : (t : ValueType) (vs : List Value) → list_all (is_of t) vs ≡ true → All (IsOf t) vs
all_of t [] h = All-nil (IsOf t)
all_of t (v ∷ vs) h = let tests = both (is_of t v) (list_all (is_of t) vs) h in All-cons (IsOf t) v vs (of_type t v tests.0) (all_of t vs tests.1)

array_is : (a : Array) → is_array a ≡ true → IsArray a
array_is a h = let tests = both (nat_le (length a.shape) 2) (length a.items == items_of a.shape && list_all (is_of a.value_type) a.items) h in
    let rest = both (length a.items == items_of a.shape) (list_all (is_of a.value_type) a.items) tests.1 in
    record { sizes = within (length a.shape) 2 tests.0; count = equal (length a.items) (items_of a.shape) rest.0; each = all_of a.value_type a.items rest.1 }

fits : (nin : ℤ) (r : ParameterRow) (a : Array) → fits_row nin r a ≡ true → FitsRow nin r a
fits nin r a h = let tests = both (same_type a.value_type r.value_type) (has_shape nin r.per_nin a.shape && is_array a) h in
    let rest = both (has_shape nin r.per_nin a.shape) (is_array a) tests.1 in
    record { value_type = types_same a.value_type r.value_type tests.0; shape = shaped nin r.per_nin a.shape rest.0; array = array_is a rest.1 }

rows_fit : (nin : ℤ) (rs : List ParameterRow) (v : List Array) → fit_rows nin rs v ≡ true → FitRows nin rs v
rows_fit nin [] [] h = tt
rows_fit nin [] (x ∷ v) h = absurd (no_truth h)
rows_fit nin (r ∷ rs) [] h = absurd (no_truth h)
rows_fit nin (r ∷ rs) (x ∷ v) h = let tests = both (fits_row nin r x) (fit_rows nin rs v) h in (fits nin r x tests.0, rows_fit nin rs v tests.1)

pub fit_is : (k : Kind) (v : List Array) → fit k v ≡ true → Fits k v
fit_is k v h = record { rows = rows_fit (integer_at v 0) (parameters k) v h }
