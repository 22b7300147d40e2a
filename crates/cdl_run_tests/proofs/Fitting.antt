-- Values that fit parameters, as the tests make them.
use Rattle.std.proofs.Common.{ℕ, zero, suc, ◌+◌, ◌≡◌, ◌<◌, ◌≤◌, ℤ, List, [], ◌∷◌, ◌++◌, length, get_or, map, take, add-one, ap, ◌∙◌, Bool, false, true, refl, arith, subst, sym}
use Rattle.std.proofs.Math.Nat.{lt_of_not-le}
use Rattle.std.proofs.Math.Seq.{take-suc}
use Rattle.std.proofs.lemmas.List.{map-append}
use Rattle.std.specs.Prelude.{unsigned_abs, All}
use Rattle.cdl_values.specs.declared.value.Array.{Array}
use Rattle.cdl_values.specs.declared.value.Value.{Value}
use Rattle.cdl_values.specs.declared.value.Value.TheVariants.{Integer}
use Rattle.cdl_values.specs.declared.value.ValueType.{ValueType}
use Rattle.cdl_values.specs.declared.value.ValueType.TheVariants.{Integer as IntegerType, Real as RealType}
use Rattle.cdl_kinds.specs.declared.kind.Kind.{Kind}
use Rattle.cdl_kinds.specs.declared.kind.Kind.TheVariants.{IntegersMultiSum, RealsMultiSum}
use Rattle.cdl_kinds.specs.Conditions.{Fits, FitRows, FitsRow, HasShape, Keeps, is_count}
use Rattle.cdl_kinds.specs.declared.parameter.Parameter.{Parameter}
use Rattle.cdl_kinds.specs.Table.{ParameterRow}
use Rattle.cdl_kinds.specs.Parameters.{parameter_row}
use Rattle.cdl_values.specs.Values.{IsOf}
use Rattle.cdl_values.specs.History.{AreReady, AreValues, Signature}

one_each : (t : ValueType) (x : Value) → IsOf t x → All (IsOf t) (x ∷ [])
one_each t x h zero d l = h
one_each t x h (suc k) d l = absurd (omega arith)

no_shape : (nin : ℤ) (p : Bool) → p ≡ false → HasShape nin p []
no_shape nin false e = refl
no_shape nin true e = cc

pub scalar_fits : (nin : ℤ) (r : ParameterRow) (x : Value) → IsOf r.value_type x → r.per_nin ≡ false → FitsRow nin r (record { value_type = r.value_type; shape = []; items = x ∷ [] })
scalar_fits nin r x h e = record {
  value_type = refl;
  shape = no_shape nin r.per_nin e;
  array = record { sizes = omega arith; count = refl; each = one_each r.value_type x h };
}

-- one row and one value more
pub one_more : (nin : ℤ) (rs : List ParameterRow) (v : List Array) (r : ParameterRow) (a : Array) → FitRows nin rs v → FitsRow nin r a → FitRows nin (rs ++ r ∷ []) (v ++ a ∷ [])
one_more nin [] [] r a h f = (f, tt)
one_more nin [] (b ∷ v) r a h f = absurd h
one_more nin (q ∷ rs) [] r a h f = absurd h
one_more nin (q ∷ rs) (b ∷ v) r a h f = (h.0, one_more nin rs v r a h.1 f)

pub scalars_more : (nin : ℤ) (rows : List Parameter) (i : ℕ) (d : Parameter) (v : List Array) (a : Array) (w : List Array) → i < length rows
    → FitRows nin (map parameter_row (take i rows)) v → FitsRow nin (parameter_row (get_or rows i d)) a → w ≡ v ++ a ∷ [] → FitRows nin (map parameter_row (take (i + 1) rows)) w
scalars_more nin rows i d v a w l h f e =
    let t : take (suc i) rows ≡ take i rows ++ get_or rows i d ∷ [] = take-suc rows i d l in
    let m : map parameter_row (take (suc i) rows) ≡ map parameter_row (take i rows) ++ parameter_row (get_or rows i d) ∷ [] = ap (map parameter_row) t ∙ map-append parameter_row (take i rows) (get_or rows i d ∷ []) in
    rw (add-one, e, m) (one_more nin (map parameter_row (take i rows)) v (parameter_row (get_or rows i d)) a h f)

count_each : (z : ℤ) → unsigned_abs z ≤ 2147483647 → All (IsOf IntegerType) (Integer z ∷ [])
count_each z h zero d l = h
count_each z h (suc k) d l = absurd (omega arith)

same_shape : (z : ℤ) (m : ℕ) → (is_count z ≡ true → m ≡ unsigned_abs z) → is_count z ≡ true → m ∷ [] ≡ unsigned_abs z ∷ []
same_shape z m f h = ap (λ (k : ℕ). k ∷ []) (f h)

pub integer_sum_fits : (t : ValueType) (z : ℤ) (m : ℕ) (xs : List Value) → t ≡ IntegerType → unsigned_abs z ≤ 2147483647 → (is_count z ≡ true → m ≡ unsigned_abs z) → length xs ≡ m → All (IsOf t) xs
    → Fits IntegersMultiSum (record { value_type = IntegerType; shape = []; items = Integer z ∷ [] } ∷ record { value_type = t; shape = m ∷ []; items = xs } ∷ [])
integer_sum_fits t z m xs e s f c h = record {
  rows = (
    record { value_type = refl; shape = refl; array = record { sizes = omega arith; count = refl; each = count_each z s } },
    (record { value_type = e; shape = same_shape z m f; array = record { sizes = omega arith; count = omega arith; each = h } }, tt),
  );
}

pub real_sum_fits : (t : ValueType) (z : ℤ) (m : ℕ) (xs : List Value) → t ≡ RealType → unsigned_abs z ≤ 2147483647 → (is_count z ≡ true → m ≡ unsigned_abs z) → length xs ≡ m → All (IsOf t) xs
    → Fits RealsMultiSum (record { value_type = IntegerType; shape = []; items = Integer z ∷ [] } ∷ record { value_type = t; shape = m ∷ []; items = xs } ∷ [])
real_sum_fits t z m xs e s f c h = record {
  rows = (
    record { value_type = refl; shape = refl; array = record { sizes = omega arith; count = refl; each = count_each z s } },
    (record { value_type = e; shape = same_shape z m f; array = record { sizes = omega arith; count = omega arith; each = h } }, tt),
  );
}

pub values_ready : (p q : Signature) (xs : List ℤ) → q ≡ p → AreValues p xs → AreReady q xs
values_ready p q xs e v = rw e (record { size = v.size; each = λ i l _. v.each i l })

-- an input's number is below how many there are
pub before_outputs : (i n : ℕ) (b : Bool) → b ≡ true → (n ≤ i → b ≡ false) → i < n
before_outputs i n b t f = lt_of_not-le (λ l. let o : b ≡ false = f l in cc)

-- equal values keep the same
pub same_keeps : (k : Kind) (p q : List Array) → q ≡ p → Keeps k p → Keeps k q
same_keeps k p q e h = subst (Keeps k) (sym e) h
