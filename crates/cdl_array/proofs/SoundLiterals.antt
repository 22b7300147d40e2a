-- What is an array in, is an array out: literals and conversions.
use Rattle.std.proofs.Common.{ℕ, ◌+◌, ◌*◌, ◌≡◌, ◌≤◌, Bool, true, false, ◌&&◌, cond, List, [], ◌∷◌, ◌++◌, Ok, length, refl, arith, sym, ap, ◌∙◌, subst}
use Rattle.std.specs.Prelude.{nat_le}
use Rattle.std.proofs.lemmas.Bool.Decides.{nat_tests}
use Rattle.cdl_values.specs.Values.{IsArray, IsOf, items_of}
use Rattle.cdl_values.specs.declared.value.Array.{Array}
use Rattle.cdl_values.specs.declared.value.Value.{Value}
use Rattle.cdl_values.specs.declared.value.Value.TheVariants.{Boolean, Integer, Real, Str, Enumeration}
use Rattle.cdl_values.specs.declared.value.ValueType.{ValueType}
use Rattle.cdl_values.specs.declared.value.ValueType.TheVariants.{Boolean as BooleanType, Integer as IntegerType, Real as RealType, Str as StrType, Enumeration as EnumerationType}
use Rattle.std.specs.Str.{bytes_eq}
use Rattle.std.specs.List.{All, list_all}
use Rattle.std.proofs.lemmas.List.{length-map, length-append}
use Rattle.std.proofs.lemmas.List.Elements.{All-nil, All-cons, All-head, All-tail, All-weaker, All-map, All-append}
use Rattle.std.proofs.lemmas.Slice.Eq.{bytes_eq-Decides}
use Rattle.std.proofs.lemmas.Bool.{and_parts}
use Rattle.cdl_source.specs.declared.limits.TheConstants.{LARGEST_SIZE}
use Rattle.cdl_source.specs.declared.rules.TheConstants.{WRONG_SHAPE, WRONG_TYPE, SIZE_OUT_OF_RANGE}
use Rattle.cdl_array.specs.Outcomes.{holds_or}
use Rattle.cdl_array.specs.Sizes.{count_of}
use Rattle.cdl_array.specs.Types.{same_type, is_number, is_integer, is_real, have_type, are_numbers, common_type, value_as, values_as, converted}
use Rattle.cdl_array.specs.Literals.{have_shape, items_as, literal_like, literal}
use Rattle.cdl_array.proofs.SoundValues.{then_gives, holds_gives, given}
use Rattle.cdl_array.proofs.SoundFunctions.{millionths_in}

type_is : (t u : ValueType) → same_type t u ≡ true → t ≡ u
unfolding same_type
type_is BooleanType BooleanType e = refl
type_is IntegerType IntegerType e = refl
type_is RealType RealType e = refl
type_is StrType StrType e = refl
type_is (EnumerationType c) (EnumerationType d) e = let q : c ≡ d = grind (arith, nat_tests) in ap EnumerationType q
type_is _ _ e = cc

keep : (t : ValueType) (v : Value) → IsOf t v → IsOf t (value_as t v)
unfolding value_as
keep BooleanType (Boolean b) h = h
keep IntegerType (Integer z) h = h
keep RealType (Real z) h = h
keep StrType (Str s) h = h
keep (EnumerationType c) (Enumeration d o) h = h
keep _ _ h = absurd h

as_real : (u : ValueType) (v : Value) → is_number u ≡ true → IsOf u v → IsOf RealType (value_as RealType v)
unfolding is_number value_as
as_real IntegerType (Integer z) e h = millionths_in z h
as_real RealType (Real z) e h = h
as_real IntegerType _ e h = absurd h
as_real RealType _ e h = absurd h
as_real _ _ e h = cc

-- the items of an array become values of this type
abbrev Becomes : ValueType → Array → Type 0
Becomes t a = (v : Value) → IsOf a.value_type v → IsOf t (value_as t v)

same_becomes : (t : ValueType) (a : Array) → same_type t a.value_type ≡ true → Becomes t a
same_becomes t a e v h = keep t v (subst (λ (u : ValueType). IsOf u v) (sym (type_is t a.value_type e)) h)

number_becomes : (a : Array) → is_number a.value_type ≡ true → Becomes RealType a
number_becomes a e v h = as_real a.value_type v e h

all_from : (p : Array → Bool) (P : Array → Type 0) → ((a : Array) → p a ≡ true → P a) → (xs : List Array) → list_all p xs ≡ true → All P xs
all_from p P f [] e = All-nil P
all_from p P f (x ∷ xs) e = let b = and_parts (p x) (list_all p xs) e in All-cons P x xs (f x b.0) (all_from p P f xs b.1)

common_cases : (same : Bool) (first t : ValueType) (xs : List Array) → (same ≡ true → All (Becomes first) xs) → cond same (Ok first) (holds_or (are_numbers xs) WRONG_TYPE (Ok RealType)) ≡ Ok t → All (Becomes t) xs
common_cases true first t xs f e = let q : first ≡ t = cc in subst (λ (u : ValueType). All (Becomes u) xs) q (f refl)
common_cases false first t xs f e =
    let n = holds_gives (are_numbers xs) WRONG_TYPE (Ok RealType) t e in
    let q : RealType ≡ t = let r = n.1 in cc in
    subst (λ (u : ValueType). All (Becomes u) xs) q (all_from (λ a. is_number a.value_type) (Becomes RealType) number_becomes xs n.0)

common_becomes : (first t : ValueType) (xs : List Array) → common_type first xs ≡ Ok t → All (Becomes t) xs
unfolding common_type
common_becomes first t xs e = common_cases (have_type first xs) first t xs (all_from (λ a. same_type first a.value_type) (Becomes first) (same_becomes first) xs) e

values_each : (t : ValueType) (a : Array) → IsArray a → Becomes t a → All (IsOf t) (values_as t a.items)
values_each t a h b = All-map (IsOf t) (value_as t) a.items (All-weaker (IsOf a.value_type) (λ v. IsOf t (value_as t v)) b a.items h.each)

-- literals
items_each : (t : ValueType) (xs : List Array) → All IsArray xs → All (Becomes t) xs → All (IsOf t) (items_as t xs)
items_each t [] h b = All-nil (IsOf t)
items_each t (x ∷ xs) h b = All-append (IsOf t) (values_as t x.items) (items_as t xs) (values_each t x (All-head IsArray x xs h) (All-head (Becomes t) x xs b)) (items_each t xs (All-tail IsArray x xs h) (All-tail (Becomes t) x xs b))

items_long : (t : ValueType) (shape : List ℕ) (xs : List Array) → All IsArray xs → have_shape shape xs ≡ true → length (items_as t xs) ≡ length xs * items_of shape
items_long t shape [] h e = grind arith
items_long t shape (x ∷ xs) h e =
    let b = and_parts (bytes_eq x.shape shape) (have_shape shape xs) e in
    let q : x.shape ≡ shape = (bytes_eq-Decides x.shape shape).0 b.0 in
    let whole : IsArray x = All-head IsArray x xs h in
    let one : length (values_as t x.items) ≡ items_of shape = rw length-map (whole.count ∙ ap items_of q) in
    let more : length (items_as t xs) ≡ length xs * items_of shape = items_long t shape xs (All-tail IsArray x xs h) b.1 in
    let joined : length (values_as t x.items ++ items_as t xs) ≡ length (values_as t x.items) + length (items_as t xs) = length-append (values_as t x.items) (items_as t xs) in
    omega (arith, one, more, joined)

like_array : (first : ValueType) (shape : List ℕ) (xs : List Array) (c : Array) → All IsArray xs → literal_like first shape xs ≡ Ok c → IsArray c
like_array first shape xs c h e =
    let s = holds_gives (nat_le (length shape) 1 && have_shape shape xs) WRONG_SHAPE _ c e in
    let b = and_parts (nat_le (length shape) 1) (have_shape shape xs) s.0 in
    let t = then_gives (common_type first xs) _ c s.1 in
    let k = holds_gives (nat_le (length xs) LARGEST_SIZE) SIZE_OUT_OF_RANGE _ c t.2 in
    let n = then_gives (count_of (length xs ∷ shape)) _ c k.1 in
    let few : length shape ≤ 1 = let f = b.0 in grind (arith, nat_tests) in
    given _ c n.2 (record { sizes = omega arith; count = items_long t.0 shape xs h b.1; each = items_each t.0 xs h (common_becomes first t.0 xs t.1) })

pub literal_array : (xs : List Array) (c : Array) → All IsArray xs → literal xs ≡ Ok c → IsArray c
literal_array [] c h e = cc
literal_array (x ∷ xs) c h e = like_array x.value_type x.shape (x ∷ xs) c h e

-- conversions
integer_is_number : (u : ValueType) → is_integer u ≡ true → is_number u ≡ true
unfolding is_integer is_number
integer_is_number IntegerType e = refl
integer_is_number _ e = cc

real_becomes : (t : ValueType) (a : Array) → is_real t ≡ true → is_number a.value_type ≡ true → Becomes t a
unfolding is_real
real_becomes RealType a e n = number_becomes a n
real_becomes _ a e n = cc

converted_cases : (same : Bool) (t : ValueType) (a c : Array) → IsArray a → cond same (Ok a) (holds_or (is_integer a.value_type) WRONG_TYPE (holds_or (is_real t) WRONG_TYPE (Ok (record { value_type = t; shape = a.shape; items = values_as t a.items })))) ≡ Ok c → IsArray c
converted_cases true t a c h e = given a c e h
converted_cases false t a c h e =
    let i = holds_gives (is_integer a.value_type) WRONG_TYPE _ c e in
    let r = holds_gives (is_real t) WRONG_TYPE _ c i.1 in
    given _ c r.1 (record { sizes = h.sizes; count = rw length-map h.count; each = values_each t a h (real_becomes t a r.0 (integer_is_number a.value_type i.0)) })

pub converted_array : (t : ValueType) (a c : Array) → IsArray a → converted t a ≡ Ok c → IsArray c
converted_array t a c h e = converted_cases (same_type a.value_type t) t a c h e
