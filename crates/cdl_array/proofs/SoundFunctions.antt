-- What is an array in, is an array out: functions, subscripts and parts.
use Rattle.std.proofs.Common.{ℕ, zero, suc, ◌+◌, ◌-◌, ◌*◌, ◌≡◌, ◌≤◌, ℤ, pos, Bool, true, false, ◌&&◌, ◌==◌, List, [], ◌∷◌, Some, Ok, length, take, drop, refl, arith, sym, ◌∙◌, subst}
use Rattle.std.specs.Prelude.{unsigned_abs, slice_get, nat_le}
use Rattle.std.specs.List.{All}
use Rattle.std.proofs.lemmas.Int.{ints}
use Rattle.cdl_decimal.specs.Near.{InRange, in_range}
use Rattle.cdl_values.specs.Values.{IsArray, IsOf, items_of}
use Rattle.cdl_values.specs.declared.value.Array.{Array}
use Rattle.cdl_values.specs.declared.value.Value.{Value}
use Rattle.cdl_values.specs.declared.value.Value.TheVariants.{Integer, Real}
use Rattle.cdl_values.specs.declared.value.ValueType.{ValueType}
use Rattle.cdl_values.specs.declared.value.ValueType.TheVariants.{Integer as IntegerType, Real as RealType}
use Rattle.std.proofs.lemmas.List.{length-replicate, length-drop, length-take-le, take-append-drop}
use Rattle.std.proofs.lemmas.List.Elements.{All-nil, All-cons, All-head, All-tail, All-replicate, All-take, All-drop}
use Rattle.cdl_decimal.specs.Counts.{floor_whole}
use Rattle.cdl_decimal.proofs.ScaleLaws.{in_range-some}
use Rattle.cdl_values.specs.Extremes.{least, greatest}
use Rattle.cdl_array.specs.declared.numbers.Numbers.{Numbers}
use Rattle.cdl_array.specs.declared.numbers.Numbers.TheVariants.{Integers, Reals}
use Rattle.cdl_array.specs.declared.functions.Function.{Function}
use Rattle.cdl_array.specs.declared.functions.Function.TheVariants.{Abs, Min, Max, Sum, Size, Fill, Floor}
use Rattle.cdl_source.specs.declared.limits.TheConstants.{MOST_ITEMS}
use Rattle.cdl_source.specs.declared.rules.TheConstants.{WRONG_SHAPE, WRONG_TYPE, SIZE_OUT_OF_RANGE, NO_VALUE}
use Rattle.cdl_array.specs.Outcomes.{Outcome}
use Rattle.cdl_array.specs.Scalars.{scalar_of}
use Rattle.cdl_array.specs.Numbers.{millionths, numbers_of}
use Rattle.cdl_array.specs.Sizes.{size_of, count_of}
use Rattle.cdl_array.specs.Parts.{place, place_of, are_scalars, are_subscripts, subscript, part}
use Rattle.cdl_array.specs.Functions.{number_of, row_of, row_value, of_row, of_some, of_all, counts_in, magnitude, floor, dimension, dimension_value, of_scalar, chosen, of_two, filled_shape, filled_row, filled_rows, call}
use Rattle.cdl_array.proofs.Places.{part_fits}
use Rattle.cdl_array.proofs.SoundValues.{IsSound, first_is, scalar_value, scalar_is, some_gives, then_gives, holds_gives, integer_sound, real_sound, made, given}

-- numbers of rows, and of scalars
number_sound : (t : ValueType) (z : ℤ) (v : Value) → number_of t z ≡ Ok v → IsSound v
unfolding number_of
number_sound IntegerType z v e = integer_sound z v e
number_sound RealType z v e = real_sound (in_range z) v (in_range-some z) e
number_sound _ z v e = cc

row_sound : (f : List ℤ → Outcome ℤ) (a : Array) (v : Value) → row_value f a ≡ Ok v → IsSound v
row_sound f a v e =
    let vs = then_gives (row_of a) _ v e in
    let z = then_gives (f (counts_in a.value_type vs.0)) _ v vs.2 in
    number_sound a.value_type z.0 v z.2

row_array : (f : List ℤ → Outcome ℤ) (a c : Array) → of_row f a ≡ Ok c → IsArray c
row_array f a c e = made (row_value f a) c (row_sound f a) e

magnitude_sound : (x v : Value) → magnitude x ≡ Ok v → IsSound v
unfolding magnitude
magnitude_sound (Integer z) v e = integer_sound (pos (unsigned_abs z)) v e
magnitude_sound (Real z) v e = real_sound (in_range (pos (unsigned_abs z))) v (in_range-some (pos (unsigned_abs z))) e
magnitude_sound _ v e = cc

floor_sound : (x v : Value) → IsSound x → floor x ≡ Ok v → IsSound v
unfolding floor
floor_sound (Integer z) v h e = let q : Integer z ≡ v = cc in subst IsSound q h
floor_sound (Real z) v h e = integer_sound (floor_whole z) v e
floor_sound _ v h e = cc

dimension_sound : (shape : List ℕ) (x v : Value) → dimension_value shape x ≡ Ok v → IsSound v
unfolding dimension_value
dimension_sound shape (Integer z) v e = let n = some_gives (dimension shape z) WRONG_SHAPE _ v e in integer_sound (pos n.0) v n.2
dimension_sound shape _ v e = cc

scalar_array : (f : Value → Outcome Value) (a c : Array) → ((x v : Value) → IsSound x → f x ≡ Ok v → IsSound v) → IsArray a → of_scalar f a ≡ Ok c → IsArray c
scalar_array f a c s h e =
    let x = some_gives (scalar_of a) WRONG_SHAPE _ c e in
    made (f x.0) c (λ v. s x.0 v (scalar_value a x.0 h x.1)) x.2

-- two numbers that are in range
abbrev AreSound : Numbers → Type 0
AreSound (Integers a b) = (unsigned_abs a ≤ 2147483647) × (unsigned_abs b ≤ 2147483647)
AreSound (Reals a b) = InRange a × InRange b

pub millionths_in : (z : ℤ) → unsigned_abs z ≤ 2147483647 → InRange (millionths z)
millionths_in z h = omega (arith, ints)

numbers_sound : (x y : Value) (n : Numbers) → IsSound x → IsSound y → numbers_of x y ≡ Ok n → AreSound n
unfolding numbers_of
numbers_sound (Integer a) (Integer b) n h k e = let q : Integers a b ≡ n = cc in subst AreSound q (h, k)
numbers_sound (Integer a) (Real b) n h k e = let q : Reals (millionths a) b ≡ n = cc in subst AreSound q (millionths_in a h, k)
numbers_sound (Real a) (Integer b) n h k e = let q : Reals a (millionths b) ≡ n = cc in subst AreSound q (h, millionths_in b k)
numbers_sound (Real a) (Real b) n h k e = let q : Reals a b ≡ n = cc in subst AreSound q (h, k)
numbers_sound _ _ n h k e = cc

chosen_sound : (greatest : Bool) (n : Numbers) → AreSound n → IsSound (chosen greatest n)
chosen_sound true (Integers a b) h = grind (arith, ints)
chosen_sound true (Reals a b) h = grind (arith, ints)
chosen_sound false (Integers a b) h = grind (arith, ints)
chosen_sound false (Reals a b) h = grind (arith, ints)

two_array : (greatest : Bool) (a b c : Array) → IsArray a → IsArray b → of_two (chosen greatest) a b ≡ Ok c → IsArray c
two_array greatest a b c h k e =
    let x = some_gives (scalar_of a) WRONG_SHAPE _ c e in
    let y = some_gives (scalar_of b) WRONG_SHAPE _ c x.2 in
    let n = then_gives (numbers_of x.0 y.0) _ c y.2 in
    given _ c n.2 (scalar_is (chosen greatest n.0) (chosen_sound greatest n.0 (numbers_sound x.0 y.0 n.0 (scalar_value a x.0 h x.1) (scalar_value b y.0 k y.1) n.1)))

-- equal items
shape_array : (t : ValueType) (v : Value) (shape : List ℕ) (c : Array) → IsOf t v → length shape ≤ 2 → filled_shape t v shape ≡ Ok c → IsArray c
shape_array t v shape c h few e =
    let n = then_gives (count_of shape) _ c e in
    let m = holds_gives (nat_le (items_of shape) MOST_ITEMS) SIZE_OUT_OF_RANGE (Ok (items_of shape)) n.0 n.1 in
    let q : items_of shape ≡ n.0 = let r = m.1 in cc in
    given _ c n.2 (record { sizes = few; count = length-replicate n.0 v ∙ sym q; each = All-replicate (IsOf t) n.0 v h })

scalar_of_type : (a : Array) (v : Value) → IsArray a → scalar_of a ≡ Some v → IsOf a.value_type v
unfolding scalar_of
scalar_of_type a v h e = first_is (IsOf a.value_type) a.shape a.items v h.each e

filled_row_array : (x n c : Array) → IsArray x → filled_row x n ≡ Ok c → IsArray c
filled_row_array x n c h e =
    let v = some_gives (scalar_of x) WRONG_SHAPE _ c e in
    let s = then_gives (size_of n) _ c v.2 in
    shape_array x.value_type v.0 (s.0 ∷ []) c (scalar_of_type x v.0 h v.1) (omega arith) s.2

filled_rows_array : (x n m c : Array) → IsArray x → filled_rows x n m ≡ Ok c → IsArray c
filled_rows_array x n m c h e =
    let v = some_gives (scalar_of x) WRONG_SHAPE _ c e in
    let r = then_gives (size_of n) _ c v.2 in
    let s = then_gives (size_of m) _ c r.2 in
    shape_array x.value_type v.0 (r.0 ∷ s.0 ∷ []) c (scalar_of_type x v.0 h v.1) (omega arith) s.2

pub call_array : (f : Function) (args : List Array) (c : Array) → All IsArray args → call f args ≡ Ok c → IsArray c
call_array Abs (a ∷ []) c h e = scalar_array magnitude a c (λ x v s. magnitude_sound x v) (All-head IsArray a [] h) e
call_array Min (a ∷ []) c h e = row_array (of_some least) a c e
call_array Min (a ∷ b ∷ []) c h e = two_array false a b c (All-head IsArray a (b ∷ []) h) (All-head IsArray b [] (All-tail IsArray a (b ∷ []) h)) e
call_array Max (a ∷ []) c h e = row_array (of_some greatest) a c e
call_array Max (a ∷ b ∷ []) c h e = two_array true a b c (All-head IsArray a (b ∷ []) h) (All-head IsArray b [] (All-tail IsArray a (b ∷ []) h)) e
call_array Sum (a ∷ []) c h e = row_array of_all a c e
call_array Size (a ∷ i ∷ []) c h e = scalar_array (dimension_value a.shape) i c (λ x v s. dimension_sound a.shape x v) (All-head IsArray i [] (All-tail IsArray a (i ∷ []) h)) e
call_array Fill (a ∷ n ∷ []) c h e = filled_row_array a n c (All-head IsArray a (n ∷ []) h) e
call_array Fill (a ∷ n ∷ m ∷ []) c h e = filled_rows_array a n m c (All-head IsArray a (n ∷ m ∷ []) h) e
call_array Floor (a ∷ []) c h e = scalar_array floor a c floor_sound (All-head IsArray a [] h) e
call_array _ _ c h e = cc

-- items and parts
at_all : (P : Value → Type 0) (vs : List Value) (i : ℕ) (v : Value) → All P vs → slice_get vs i ≡ Some v → P v
at_all P [] i v h e = cc
at_all P (x ∷ xs) zero v h e = let q : x ≡ v = cc in subst P q (All-head P x xs h)
at_all P (x ∷ xs) (suc i) v h e = at_all P xs i v (All-tail P x xs h) e

pub subscript_array : (a : Array) (subs : List Array) (c : Array) → IsArray a → subscript a subs ≡ Ok c → IsArray c
subscript_array a subs c h e =
    let s = holds_gives (length subs == length a.shape && are_scalars subs) WRONG_SHAPE _ c e in
    let t = holds_gives (are_subscripts subs) WRONG_TYPE _ c s.1 in
    let k = some_gives (place_of a.shape subs) NO_VALUE _ c t.1 in
    let v = some_gives (slice_get a.items k.0) NO_VALUE _ c k.2 in
    given _ c v.2 (record { sizes = omega arith; count = refl; each = All-cons (IsOf a.value_type) v.0 [] (at_all (IsOf a.value_type) a.items k.0 v.0 h.each v.1) (All-nil (IsOf a.value_type)) })

pub part_array : (a : Array) (is : List ℕ) (c : Array) → IsArray a → part a is ≡ Ok c → IsArray c
part_array a is c h e =
    let n = length is in
    let rest = drop n a.shape in
    let r = items_of rest in
    let k = some_gives (place (take n a.shape) is) WRONG_SHAPE _ c e in
    let fits : k.0 * r + r ≤ length a.items = part_fits a (take n a.shape) rest is k.0 r h (take-append-drop n a.shape) k.1 refl in
    let few : length rest ≤ 2 = omega (arith, length-drop n a.shape, h.sizes) in
    let long : length (take (k.0 * r + r - k.0 * r) (drop (k.0 * r) a.items)) ≡ r = length-take-le (k.0 * r + r - k.0 * r) (drop (k.0 * r) a.items) (omega (arith, length-drop (k.0 * r) a.items)) ∙ omega arith in
    given _ c k.2 (record { sizes = few; count = long; each = All-take (IsOf a.value_type) _ _ (All-drop (IsOf a.value_type) _ _ h.each) })
