-- What is an array in, is an array out: values and operators.
use Rattle.std.proofs.Common.{ℕ, ◌≡◌, ◌≤◌, ℤ, pos, ◌+ℤ◌, ◌-ℤ◌, ◌*ℤ◌, Bool, true, false, not, ◌&&◌, ◌||◌, ◌==◌, cond, List, [], ◌∷◌, Option, Some, None, Ok, Err, refl, arith, subst}
use Rattle.std.specs.Prelude.{unsigned_abs, nat_le}
use Rattle.std.specs.List.{All}
use Rattle.std.proofs.lemmas.Bool.Decides.{nat_tests}
use Rattle.std.proofs.lemmas.List.Elements.{All-nil, All-cons, All-head}
use Rattle.cdl_decimal.specs.Near.{InRange, in_range, near, near_signed}
use Rattle.cdl_decimal.specs.Counts.{real_add, real_sub, real_mul, real_div}
use Rattle.cdl_decimal.proofs.ScaleLaws.{in_range-some}
use Rattle.cdl_values.specs.Values.{IsArray, IsOf}
use Rattle.cdl_values.specs.declared.value.Array.{Array}
use Rattle.cdl_values.specs.declared.value.Value.{Value}
use Rattle.cdl_values.specs.declared.value.Value.TheVariants.{Boolean, Integer, Real, Str, Enumeration}
use Rattle.cdl_values.specs.declared.value.ValueType.{ValueType}
use Rattle.cdl_values.specs.declared.value.ValueType.TheVariants.{Boolean as BooleanType, Integer as IntegerType, Real as RealType, Str as StrType, Enumeration as EnumerationType}
use Rattle.cdl_tree.specs.declared.expr.Op.{Op}
use Rattle.cdl_tree.specs.declared.expr.Op.TheVariants.{Plus, Minus, Times, Divide, Less, LessEqual, Greater, GreaterEqual, Equal, NotEqual, And, Or, Not}
use Rattle.cdl_array.specs.declared.numbers.Numbers.{Numbers}
use Rattle.cdl_array.specs.declared.numbers.Numbers.TheVariants.{Integers, Reals}
use Rattle.cdl_source.specs.declared.rules.TheConstants.{WRONG_SHAPE, NO_VALUE}
use Rattle.cdl_array.specs.Outcomes.{Outcome, then_to, some_or, holds_or}
use Rattle.cdl_array.specs.Scalars.{first_without_sizes, scalar_of, scalar, type_of}
use Rattle.cdl_array.specs.Numbers.{millionths, is_less, is_less_or_equal, is_greater, is_greater_or_equal, numbers_of, integer_value, real_value, sum_of, difference_of, product_of, quotient_of}
use Rattle.cdl_array.specs.Operators.{truth, are_equal, conjunction, disjunction, binary_value, binary, unary_value, unary}

-- a value that its type may have
abbrev pub IsSound : Value → Type 0
IsSound v = IsOf (type_of v) v

pub of_type : (t : ValueType) (v : Value) → IsOf t v → IsSound v
of_type BooleanType (Boolean b) h = tt
of_type IntegerType (Integer z) h = h
of_type RealType (Real z) h = h
of_type StrType (Str s) h = tt
of_type (EnumerationType c) (Enumeration d o) h = refl
of_type _ _ h = absurd h

pub first_is : (P : Value → Type 0) (shape : List ℕ) (items : List Value) (v : Value) → All P items → first_without_sizes shape items ≡ Some v → P v
first_is P [] [] v h e = cc
first_is P [] (x ∷ xs) v h e = let q : x ≡ v = cc in subst P q (All-head P x xs h)
first_is P (n ∷ ns) items v h e = cc

pub scalar_value : (a : Array) (v : Value) → IsArray a → scalar_of a ≡ Some v → IsSound v
unfolding scalar_of
scalar_value a v h e = of_type a.value_type v (first_is (IsOf a.value_type) a.shape a.items v h.each e)

pub scalar_is : (v : Value) → IsSound v → IsArray (scalar v)
scalar_is v h = record { sizes = omega arith; count = refl; each = All-cons (IsOf (type_of v)) v [] h (All-nil (IsOf (type_of v))) }

-- the steps of an outcome that is no rule
pub some_gives : {A B : Type 0} (o : Option A) (r : ℕ) (f : A → Outcome B) (b : B) → some_or o r f ≡ Ok b → (a : A) × (o ≡ Some a) × (f a ≡ Ok b)
some_gives None r f b e = cc
some_gives (Some a) r f b e = (a, refl, e)

pub then_gives : {A B : Type 0} (o : Outcome A) (f : A → Outcome B) (b : B) → then_to o f ≡ Ok b → (a : A) × (o ≡ Ok a) × (f a ≡ Ok b)
then_gives (Err r) f b e = cc
then_gives (Ok a) f b e = (a, refl, e)

pub holds_gives : {A : Type 0} (test : Bool) (r : ℕ) (o : Outcome A) (a : A) → holds_or test r o ≡ Ok a → (test ≡ true) × (o ≡ Ok a)
holds_gives true r o a e = (refl, e)
holds_gives false r o a e = cc

-- an Integer and a Real that are in range
bounded : (b : Bool) (z : ℤ) (v : Value) → (b ≡ true → unsigned_abs z ≤ 2147483647) → some_or (cond b (Some z) None) NO_VALUE (λ n. Ok (Integer n)) ≡ Ok v → IsSound v
bounded true z v h e = let q : Integer z ≡ v = cc in subst IsSound q (h refl)
bounded false z v h e = cc

pub integer_sound : (z : ℤ) (v : Value) → integer_value z ≡ Ok v → IsSound v
integer_sound z v e = bounded (nat_le (unsigned_abs z) 2147483647) z v (λ t. grind (arith, nat_tests)) e

unless_gives : (b : Bool) (z n : ℤ) → cond b None (in_range z) ≡ Some n → InRange n
unless_gives true z n e = cc
unless_gives false z n e = in_range-some z n e

pub real_sound : (x : Option ℤ) (v : Value) → ((n : ℤ) → x ≡ Some n → InRange n) → real_value x ≡ Ok v → IsSound v
real_sound None v h e = cc
real_sound (Some n) v h e = let q : Real n ≡ v = cc in subst IsSound q (h n refl)

pub sum_sound : (n : Numbers) (v : Value) → sum_of n ≡ Ok v → IsSound v
unfolding sum_of
sum_sound (Integers a b) v e = integer_sound (a +ℤ b) v e
sum_sound (Reals a b) v e = real_sound (real_add a b) v (in_range-some (a +ℤ b)) e

pub difference_sound : (n : Numbers) (v : Value) → difference_of n ≡ Ok v → IsSound v
unfolding difference_of
difference_sound (Integers a b) v e = integer_sound (a -ℤ b) v e
difference_sound (Reals a b) v e = real_sound (real_sub a b) v (in_range-some (a -ℤ b)) e

pub product_sound : (n : Numbers) (v : Value) → product_of n ≡ Ok v → IsSound v
unfolding product_of
product_sound (Integers a b) v e = integer_sound (a *ℤ b) v e
product_sound (Reals a b) v e = real_sound (real_mul a b) v (in_range-some (near (a *ℤ b) 1000000)) e

real_quotient_sound : (a b : ℤ) (v : Value) → real_value (real_div a b) ≡ Ok v → IsSound v
real_quotient_sound a b v e = real_sound (real_div a b) v (unless_gives (unsigned_abs b == 0) (near_signed (a *ℤ pos 1000000) b)) e

pub quotient_sound : (n : Numbers) (v : Value) → quotient_of n ≡ Ok v → IsSound v
unfolding quotient_of
quotient_sound (Integers a b) v e = real_quotient_sound (millionths a) (millionths b) v e
quotient_sound (Reals a b) v e = real_quotient_sound a b v e

abbrev boolean : Bool → Outcome Value
boolean b = Ok (Boolean b)

truth_sound : (b : Bool) (v : Value) → boolean b ≡ Ok v → IsSound v
truth_sound b v e = let q : Boolean b ≡ v = cc in subst IsSound q tt

pub both_sound : (x y v : Value) → conjunction x y ≡ Ok v → IsSound v
unfolding conjunction
both_sound (Boolean a) (Boolean b) v e = truth_sound (a && b) v e
both_sound _ _ v e = cc

either_sound : (x y v : Value) → disjunction x y ≡ Ok v → IsSound v
unfolding disjunction
either_sound (Boolean a) (Boolean b) v e = truth_sound (a || b) v e
either_sound _ _ v e = cc

pub binary_sound : (op : Op) (x y v : Value) → binary_value op x y ≡ Ok v → IsSound v
unfolding binary_value
binary_sound Plus x y v e = let w = then_gives (numbers_of x y) sum_of v e in sum_sound w.0 v w.2
binary_sound Minus x y v e = let w = then_gives (numbers_of x y) difference_of v e in difference_sound w.0 v w.2
binary_sound Times x y v e = let w = then_gives (numbers_of x y) product_of v e in product_sound w.0 v w.2
binary_sound Divide x y v e = let w = then_gives (numbers_of x y) quotient_of v e in quotient_sound w.0 v w.2
binary_sound Less x y v e = let w = then_gives (numbers_of x y) (truth is_less) v e in truth_sound (is_less w.0) v w.2
binary_sound LessEqual x y v e = let w = then_gives (numbers_of x y) (truth is_less_or_equal) v e in truth_sound (is_less_or_equal w.0) v w.2
binary_sound Greater x y v e = let w = then_gives (numbers_of x y) (truth is_greater) v e in truth_sound (is_greater w.0) v w.2
binary_sound GreaterEqual x y v e = let w = then_gives (numbers_of x y) (truth is_greater_or_equal) v e in truth_sound (is_greater_or_equal w.0) v w.2
binary_sound Equal x y v e = let w = then_gives (are_equal x y) boolean v e in truth_sound w.0 v w.2
binary_sound NotEqual x y v e = let w = then_gives (are_equal x y) (λ b. boolean (not b)) v e in truth_sound (not w.0) v w.2
binary_sound And x y v e = both_sound x y v e
binary_sound Or x y v e = either_sound x y v e
binary_sound Not x y v e = cc

pub unary_sound : (op : Op) (x v : Value) → IsSound x → unary_value op x ≡ Ok v → IsSound v
unfolding unary_value
unary_sound Plus (Integer z) v h e = let q : Integer z ≡ v = cc in subst IsSound q h
unary_sound Plus (Real z) v h e = let q : Real z ≡ v = cc in subst IsSound q h
unary_sound Minus (Integer z) v h e = integer_sound (pos 0 -ℤ z) v e
unary_sound Minus (Real z) v h e = real_sound (real_sub (pos 0) z) v (in_range-some (pos 0 -ℤ z)) e
unary_sound Not (Boolean b) v h e = truth_sound (not b) v e
unary_sound _ _ v h e = cc

-- the scalar of what is sound
pub made : (o : Outcome Value) (c : Array) → ((v : Value) → o ≡ Ok v → IsSound v) → then_to o (λ v. Ok (scalar v)) ≡ Ok c → IsArray c
made (Ok v) c h e = let q : scalar v ≡ c = cc in subst IsArray q (scalar_is v (h v refl))
made (Err r) c h e = cc

pub binary_array : (op : Op) (a b c : Array) → binary op a b ≡ Ok c → IsArray c
binary_array op a b c e =
    let x = some_gives (scalar_of a) WRONG_SHAPE _ c e in
    let y = some_gives (scalar_of b) WRONG_SHAPE _ c x.2 in
    made (binary_value op x.0 y.0) c (binary_sound op x.0 y.0) y.2

pub unary_array : (op : Op) (a c : Array) → IsArray a → unary op a ≡ Ok c → IsArray c
unary_array op a c h e =
    let x = some_gives (scalar_of a) WRONG_SHAPE _ c e in
    made (unary_value op x.0) c (λ v. unary_sound op x.0 v (scalar_value a x.0 h x.1)) x.2

-- an outcome that is an array is that one
abbrev pub array : Array → Outcome Array
array a = Ok a

pub given : (b c : Array) → array b ≡ Ok c → IsArray b → IsArray c
given b c e h = let q : b ≡ c = cc in subst IsArray q h
