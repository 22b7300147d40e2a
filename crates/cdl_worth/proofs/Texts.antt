-- The texts of what operators, functions, subscripts and parts make of arrays are UTF-8, where those of the arrays are.
use Rattle.std.proofs.Common.{ℕ, zero, suc, ◌+◌, ◌-◌, ◌*◌, ◌≡◌, subst, ℤ, pos, ◌+ℤ◌, ◌-ℤ◌, ◌*ℤ◌, Bool, true, false, ◌&&◌, ◌==◌, List, [], ◌∷◌, length, take, drop, Option, Some, Ok}
use Rattle.std.specs.Prelude.{All, unsigned_abs, slice_get, nat_le}
use Rattle.std.proofs.lemmas.List.Elements.{All-nil, All-cons, All-head, All-tail, All-replicate, All-take, All-drop, All-map, All-weaker, All-append}
use Rattle.cdl_decimal.specs.Near.{in_range, in_integer_range}
use Rattle.cdl_decimal.specs.Counts.{real_add, real_sub, real_mul, real_div, real_floor_integer}
use Rattle.cdl_source.specs.declared.limits.TheConstants.{LARGEST_SIZE}
use Rattle.cdl_values.specs.Values.{items_of}
use Rattle.cdl_values.specs.Extremes.{least, greatest}
use Rattle.cdl_values.specs.declared.value.Array.{Array}
use Rattle.cdl_values.specs.declared.value.Value.{Value}
use Rattle.cdl_values.specs.declared.value.Value.TheVariants.{Boolean, Integer, Real}
use Rattle.cdl_values.specs.declared.value.ValueType.{ValueType}
use Rattle.cdl_values.specs.declared.value.ValueType.TheVariants as type
use Rattle.cdl_tree.specs.declared.expr.Op.{Op}
use Rattle.cdl_tree.specs.declared.expr.Op.TheVariants.{Plus, Minus, Times, Divide, Less, LessEqual, Greater, GreaterEqual, Equal, NotEqual, And, Or, Not}
use Rattle.cdl_array.specs.declared.numbers.Numbers.{Numbers}
use Rattle.cdl_array.specs.declared.numbers.Numbers.TheVariants.{Integers, Reals}
use Rattle.cdl_array.specs.declared.functions.Function.{Function}
use Rattle.cdl_array.specs.declared.functions.Function.TheVariants.{Abs, Min, Max, Sum, Size, Fill, Floor}
use Rattle.cdl_array.specs.Outcomes.{Outcome, then_to}
use Rattle.cdl_array.specs.Scalars.{first_without_sizes, scalar_of, scalar}
use Rattle.cdl_array.specs.Numbers.{millionths, numbers_of, integer_value, real_value, sum_of, difference_of, product_of, quotient_of, is_less, is_less_or_equal, is_greater, is_greater_or_equal}
use Rattle.cdl_array.specs.Operators.{truth, are_equal, conjunction, disjunction, binary_value, binary, unary_value, unary}
use Rattle.cdl_array.specs.Sizes.{size_of, count_of}
use Rattle.cdl_array.specs.Types.{same_type, is_integer, is_real, common_type, value_as, values_as, converted}
use Rattle.cdl_array.specs.Literals.{have_shape, items_as, literal}
use Rattle.cdl_array.specs.Parts.{place, place_of, are_scalars, are_subscripts, subscript, part}
use Rattle.cdl_array.specs.Functions.{magnitude, floor, dimension, dimension_value, of_scalar, chosen, of_two, number_of, row_of, row_value, of_row, of_some, of_all, counts_in, filled_shape, filled_row, filled_rows, call}
use Rattle.cdl_worth.specs.Texts.{IsText, HasTexts}
use Rattle.cdl_worth.proofs.Given.{Gives, then_gives, any_gives, some_gives, holds_gives, cond_gives}

-- ---- scalars

first_text : (shape : List ℕ) (items : List Value) (v : Value) → All IsText items → first_without_sizes shape items ≡ Some v → IsText v
first_text [] [] v h e = cc
first_text [] (x ∷ xs) v h e = let q : x ≡ v = cc in subst IsText q (All-head IsText x xs h)
first_text (n ∷ ns) items v h e = cc

pub scalar_text : (a : Array) (v : Value) → HasTexts a → scalar_of a ≡ Some v → IsText v
unfolding scalar_of
scalar_text a v h e = first_text a.shape a.items v h e

one_text : (v : Value) → IsText v → All IsText (v ∷ [])
one_text v h = All-cons IsText v [] h (All-nil IsText)

pub scalar_gives : (v : Value) → IsText v → Gives HasTexts (Ok (scalar v))
scalar_gives v h = record { held = one_text v h }

made_gives : (o : Outcome Value) → Gives IsText o → Gives HasTexts (then_to o (λ v. Ok (scalar v)))
made_gives o h = then_gives _ _ IsText _ h scalar_gives

-- ---- numbers are no texts

integer_gives : (z : ℤ) → Gives IsText (integer_value z)
integer_gives z = some_gives (in_integer_range z) _ _ _ (λ n e. record { held = tt })

real_gives : (x : Option ℤ) → Gives IsText (real_value x)
real_gives x = some_gives x _ _ _ (λ n e. record { held = tt })

sum_gives : (n : Numbers) → Gives IsText (sum_of n)
unfolding sum_of
sum_gives (Integers a b) = integer_gives (a +ℤ b)
sum_gives (Reals a b) = real_gives (real_add a b)

difference_gives : (n : Numbers) → Gives IsText (difference_of n)
unfolding difference_of
difference_gives (Integers a b) = integer_gives (a -ℤ b)
difference_gives (Reals a b) = real_gives (real_sub a b)

product_gives : (n : Numbers) → Gives IsText (product_of n)
unfolding product_of
product_gives (Integers a b) = integer_gives (a *ℤ b)
product_gives (Reals a b) = real_gives (real_mul a b)

quotient_gives : (n : Numbers) → Gives IsText (quotient_of n)
unfolding quotient_of
quotient_gives (Integers a b) = real_gives (real_div (millionths a) (millionths b))
quotient_gives (Reals a b) = real_gives (real_div a b)

-- ---- operators

both_gives : (x y : Value) → Gives IsText (conjunction x y)
unfolding conjunction
both_gives (Boolean a) (Boolean b) = record { held = tt }
both_gives _ _ = record { held = tt }

either_gives : (x y : Value) → Gives IsText (disjunction x y)
unfolding disjunction
either_gives (Boolean a) (Boolean b) = record { held = tt }
either_gives _ _ = record { held = tt }

compared : (f : Numbers → Bool) (x y : Value) → Gives IsText (then_to (numbers_of x y) (truth f))
compared f x y = any_gives (numbers_of x y) _ _ (λ n. record { held = tt })

operated : (op : Op) (x y : Value) → Gives IsText (binary_value op x y)
unfolding binary_value
operated Plus x y = any_gives (numbers_of x y) _ _ sum_gives
operated Minus x y = any_gives (numbers_of x y) _ _ difference_gives
operated Times x y = any_gives (numbers_of x y) _ _ product_gives
operated Divide x y = any_gives (numbers_of x y) _ _ quotient_gives
operated Less x y = compared is_less x y
operated LessEqual x y = compared is_less_or_equal x y
operated Greater x y = compared is_greater x y
operated GreaterEqual x y = compared is_greater_or_equal x y
operated Equal x y = any_gives (are_equal x y) _ _ (λ b. record { held = tt })
operated NotEqual x y = any_gives (are_equal x y) _ _ (λ b. record { held = tt })
operated And x y = both_gives x y
operated Or x y = either_gives x y
operated Not x y = record { held = tt }

pub binary_gives : (op : Op) (a b : Array) → Gives HasTexts (binary op a b)
binary_gives op a b = some_gives (scalar_of a) _ _ _ (λ x e. some_gives (scalar_of b) _ _ _ (λ y f. made_gives (binary_value op x y) (operated op x y)))

signed : (op : Op) (x : Value) → Gives IsText (unary_value op x)
unfolding unary_value
signed Plus (Integer z) = record { held = tt }
signed Plus (Real z) = record { held = tt }
signed Minus (Integer z) = integer_gives (pos 0 -ℤ z)
signed Minus (Real z) = real_gives (real_sub (pos 0) z)
signed Not (Boolean b) = record { held = tt }
signed _ _ = record { held = tt }

pub unary_gives : (op : Op) (a : Array) → Gives HasTexts (unary op a)
unary_gives op a = some_gives (scalar_of a) _ _ _ (λ x e. made_gives (unary_value op x) (signed op x))

-- ---- functions

magnitude_gives : (x : Value) → Gives IsText (magnitude x)
unfolding magnitude
magnitude_gives (Integer z) = integer_gives (pos (unsigned_abs z))
magnitude_gives (Real z) = real_gives (in_range (pos (unsigned_abs z)))
magnitude_gives _ = record { held = tt }

floor_gives : (x : Value) → Gives IsText (floor x)
unfolding floor
floor_gives (Integer z) = record { held = tt }
floor_gives (Real z) = some_gives (real_floor_integer z) _ _ _ (λ n e. record { held = tt })
floor_gives _ = record { held = tt }

dimension_gives : (shape : List ℕ) (x : Value) → Gives IsText (dimension_value shape x)
unfolding dimension_value
dimension_gives shape (Integer z) = some_gives (dimension shape z) _ _ _ (λ n e. integer_gives (pos n))
dimension_gives shape _ = record { held = tt }

number_gives : (t : ValueType) (z : ℤ) → Gives IsText (number_of t z)
unfolding number_of
number_gives type.Integer z = integer_gives z
number_gives type.Real z = real_gives (in_range z)
number_gives _ z = record { held = tt }

of_scalar_gives : (f : Value → Outcome Value) (a : Array) → ((x : Value) → Gives IsText (f x)) → Gives HasTexts (of_scalar f a)
of_scalar_gives f a h = some_gives (scalar_of a) _ _ _ (λ x e. made_gives (f x) (h x))

of_row_gives : (f : List ℤ → Outcome ℤ) (a : Array) → Gives HasTexts (of_row f a)
of_row_gives f a = made_gives (row_value f a) (any_gives (row_of a) _ _ (λ vs. any_gives (f (counts_in a.value_type vs)) _ _ (λ z. number_gives a.value_type z)))

chosen_text : (b : Bool) (n : Numbers) → IsText (chosen b n)
chosen_text true (Integers a b) = tt
chosen_text true (Reals a b) = tt
chosen_text false (Integers a b) = tt
chosen_text false (Reals a b) = tt

of_two_gives : (c : Bool) (a b : Array) → Gives HasTexts (of_two (chosen c) a b)
of_two_gives c a b = some_gives (scalar_of a) _ _ _ (λ x e. some_gives (scalar_of b) _ _ _ (λ y f. any_gives (numbers_of x y) _ _ (λ n. scalar_gives (chosen c n) (chosen_text c n))))

filled_gives : (t : ValueType) (v : Value) (shape : List ℕ) → IsText v → Gives HasTexts (filled_shape t v shape)
filled_gives t v shape h = any_gives (count_of shape) _ _ (λ n. record { held = All-replicate IsText n v h })

filled_row_gives : (x n : Array) → HasTexts x → Gives HasTexts (filled_row x n)
filled_row_gives x n h = some_gives (scalar_of x) _ _ _ (λ v e. any_gives (size_of n) _ _ (λ s. filled_gives x.value_type v (s ∷ []) (scalar_text x v h e)))

filled_rows_gives : (x n m : Array) → HasTexts x → Gives HasTexts (filled_rows x n m)
filled_rows_gives x n m h = some_gives (scalar_of x) _ _ _ (λ v e. any_gives (size_of n) _ _ (λ r. any_gives (size_of m) _ _ (λ s. filled_gives x.value_type v (r ∷ s ∷ []) (scalar_text x v h e))))

pub call_gives : (f : Function) (args : List Array) → All HasTexts args → Gives HasTexts (call f args)
call_gives Abs (a ∷ []) h = of_scalar_gives magnitude a magnitude_gives
call_gives Min (a ∷ []) h = of_row_gives (of_some least) a
call_gives Min (a ∷ b ∷ []) h = of_two_gives false a b
call_gives Max (a ∷ []) h = of_row_gives (of_some greatest) a
call_gives Max (a ∷ b ∷ []) h = of_two_gives true a b
call_gives Sum (a ∷ []) h = of_row_gives of_all a
call_gives Size (a ∷ i ∷ []) h = of_scalar_gives (dimension_value a.shape) i (dimension_gives a.shape)
call_gives Fill (a ∷ n ∷ []) h = filled_row_gives a n (All-head HasTexts a (n ∷ []) h)
call_gives Fill (a ∷ n ∷ m ∷ []) h = filled_rows_gives a n m (All-head HasTexts a (n ∷ m ∷ []) h)
call_gives Floor (a ∷ []) h = of_scalar_gives floor a floor_gives
call_gives _ _ h = record { held = tt }

-- ---- literals, subscripts, parts and conversions

value_text : (t : ValueType) (v : Value) → IsText v → IsText (value_as t v)
unfolding value_as
value_text type.Real (Integer z) h = tt
value_text _ v h = h

values_text : (t : ValueType) (vs : List Value) → All IsText vs → All IsText (values_as t vs)
values_text t vs h = All-map IsText (value_as t) vs (All-weaker IsText (λ v. IsText (value_as t v)) (value_text t) vs h)

items_text : (t : ValueType) (xs : List Array) → All HasTexts xs → All IsText (items_as t xs)
items_text t [] h = All-nil IsText
items_text t (x ∷ xs) h = All-append IsText (values_as t x.items) (items_as t xs) (values_text t x.items (All-head HasTexts x xs h)) (items_text t xs (All-tail HasTexts x xs h))

pub literal_gives : (xs : List Array) → All HasTexts xs → Gives HasTexts (literal xs)
literal_gives [] h = record { held = tt }
literal_gives (x ∷ xs) h = holds_gives (nat_le (length x.shape) 1 && have_shape x.shape (x ∷ xs)) _ _ _ (λ e. any_gives (common_type x.value_type (x ∷ xs)) _ _ (λ t.
    holds_gives (nat_le (length (x ∷ xs)) LARGEST_SIZE) _ _ _ (λ f. any_gives (count_of (length (x ∷ xs) ∷ x.shape)) _ _ (λ n. record { held = items_text t (x ∷ xs) h }))))

at_text : (vs : List Value) (i : ℕ) (v : Value) → All IsText vs → slice_get vs i ≡ Some v → IsText v
at_text [] i v h e = cc
at_text (x ∷ xs) zero v h e = let q : x ≡ v = cc in subst IsText q (All-head IsText x xs h)
at_text (x ∷ xs) (suc i) v h e = at_text xs i v (All-tail IsText x xs h) e

pub subscript_gives : (a : Array) (subs : List Array) → HasTexts a → Gives HasTexts (subscript a subs)
subscript_gives a subs h = holds_gives (length subs == length a.shape && are_scalars subs) _ _ _ (λ e. holds_gives (are_subscripts subs) _ _ _ (λ f.
    some_gives (place_of a.shape subs) _ _ _ (λ k g. some_gives (slice_get a.items k) _ _ _ (λ v i. record { held = one_text v (at_text a.items k v h i) }))))

pub part_gives : (a : Array) (is : List ℕ) → HasTexts a → Gives HasTexts (part a is)
part_gives a is h =
    let r = items_of (drop (length is) a.shape) in
    some_gives (place (take (length is) a.shape) is) _ _ _ (λ k e. record { held = All-take IsText (k * r + r - k * r) (drop (k * r) a.items) (All-drop IsText (k * r) a.items h) })

pub converted_gives : (t : ValueType) (a : Array) → HasTexts a → Gives HasTexts (converted t a)
converted_gives t a h = cond_gives (same_type a.value_type t) (Ok a) _ HasTexts (record { held = h }) (holds_gives (is_integer a.value_type) _ _ _ (λ e. holds_gives (is_real t) _ _ _ (λ f. record { held = values_text t a.items h })))
