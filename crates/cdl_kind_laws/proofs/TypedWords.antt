-- Outputs that are values of their types.
use Rattle.std.proofs.Common.{ℕ, suc, ◌<◌, ◌≤◌, ◌≡◌, refl, subst, ℤ, List, [], ◌∷◌, Bool, true, false, cond, Option, Some, None, length, replicate, arith}
use Rattle.std.specs.Prelude.{pos, ◌+ℤ◌, ◌-ℤ◌, ◌*ℤ◌, ◌==◌, unsigned_abs, nat_le}
use Rattle.std.specs.Int.RustNames.{int_le, int_lt}
use Rattle.std.proofs.lemmas.Int.{ints}
use Rattle.std.proofs.lemmas.Bool.Decides.{nat_tests}
use Rattle.std.proofs.lemmas.List.{get_or-replicate, length-replicate}
use Rattle.cdl_decimal.specs.Counts.{dot, line_upper, real_add, real_div, real_line, real_mean, real_modulo, real_mul, real_sub, real_weighted_sum, total}
use Rattle.cdl_decimal.specs.Near.{InRange, in_integer_range, in_range, modulo_of, near, near_signed}
use Rattle.cdl_values.specs.declared.value.ValueType.{ValueType}
use Rattle.cdl_values.specs.declared.value.ValueType.TheVariants.{Boolean, Integer, Real}
use Rattle.cdl_values.specs.History.{AreValues, Signature, IsTime, IsValue, bit, flag, integer, one, typed, word}
use Rattle.cdl_values.specs.Extremes.{least}
use Rattle.cdl_kind_laws.proofs.Past.{IsAdded}
use Rattle.cdl_kind_laws.proofs.ValueWords.{EachReal, bit_value, one_word, three_values, two_values}

-- so many of one type
abbrev pub alike : ValueType → ℕ → Signature
alike t n = record { count = n; value_type = λ _. t; direct = λ _. true }

pub word_typed : (t : ValueType) (w : ℤ) (y : List ℤ) → IsValue t w → Some (w ∷ []) ≡ Some y → AreValues (alike t 1) y
word_typed t w y f e = let g : w ∷ [] ≡ y = cc in subst (λ (z : List ℤ). AreValues (alike t 1) z) g (record { size = refl; each = one_word t w f })

pub flag_typed : (b : Bool) (y : List ℤ) → flag b ≡ Some y → AreValues (alike Boolean 1) y
flag_typed b y e = word_typed Boolean (bit b) y (bit_value b) e

integer_by : (b : Bool) (z : ℤ) (y : List ℤ) → (b ≡ true → unsigned_abs z ≤ 2147483647) → cond b (Some (z ∷ [])) None ≡ Some y → AreValues (alike Integer 1) y
integer_by true z y f e = word_typed Integer z y (f refl) e
integer_by false z y f e = cc

small_integer : (z : ℤ) → nat_le (unsigned_abs z) 2147483647 ≡ true → unsigned_abs z ≤ 2147483647
small_integer z e = grind (arith, nat_tests)

pub integer_typed : (z : ℤ) (y : List ℤ) → integer z ≡ Some y → AreValues (alike Integer 1) y
integer_typed z y e = integer_by (nat_le (unsigned_abs z) 2147483647) z y (small_integer z) e

-- none, or a value of the type
abbrev pub IsValueIfAny : ValueType → Option ℤ → Type 0
IsValueIfAny t None = Unit {0}
IsValueIfAny t (Some z) = IsValue t z

pub any_typed : (t : ValueType) (o : Option ℤ) (y : List ℤ) → IsValueIfAny t o → one o ≡ Some y → AreValues (alike t 1) y
any_typed t None y f e = cc
any_typed t (Some z) y f e = word_typed t z y f e

if_true : (t : ValueType) (b : Bool) (z : ℤ) → (b ≡ true → IsValue t z) → IsValueIfAny t (cond b (Some z) None)
if_true t true z f = f refl
if_true t false z f = tt

small_real : (z : ℤ) → nat_le (unsigned_abs z) 10000000000000000 ≡ true → InRange z
small_real z e = grind (arith, nat_tests)

pub in_range_real : (z : ℤ) → IsValueIfAny Real (in_range z)
in_range_real z = if_true Real (nat_le (unsigned_abs z) 10000000000000000) z (small_real z)

pub in_range_integer : (z : ℤ) → IsValueIfAny Integer (in_integer_range z)
in_range_integer z = if_true Integer (nat_le (unsigned_abs z) 2147483647) z (small_integer z)

pub choose_any : (t : ValueType) (b : Bool) (o r : Option ℤ) → IsValueIfAny t o → IsValueIfAny t r → IsValueIfAny t (cond b o r)
choose_any t true o r f g = f
choose_any t false o r f g = g

pub choose_value : (t : ValueType) (b : Bool) (w z : ℤ) → IsValue t w → IsValue t z → IsValue t (cond b w z)
choose_value t true w z f g = f
choose_value t false w z f g = g

pub add_real : (a b : ℤ) → IsValueIfAny Real (real_add a b)
add_real a b = in_range_real (a +ℤ b)

pub sub_real : (a b : ℤ) → IsValueIfAny Real (real_sub a b)
sub_real a b = in_range_real (a -ℤ b)

pub mul_real : (a b : ℤ) → IsValueIfAny Real (real_mul a b)
mul_real a b = in_range_real (near (a *ℤ b) 1000000)

pub div_real : (a b : ℤ) → IsValueIfAny Real (real_div a b)
div_real a b = choose_any Real (unsigned_abs b == 0) None (in_range (near_signed (a *ℤ pos 1000000) b)) tt (in_range_real (near_signed (a *ℤ pos 1000000) b))

pub modulo_real : (a b : ℤ) → IsValueIfAny Real (real_modulo a b)
modulo_real a b = choose_any Real (unsigned_abs b == 0) None (in_range (modulo_of a b)) tt (in_range_real (modulo_of a b))

pub mean_real : (us : List ℤ) → IsValueIfAny Real (real_mean us)
mean_real us = in_range_real (near (total us) (length us))

pub weighted_real : (ks us : List ℤ) → IsValueIfAny Real (real_weighted_sum ks us)
weighted_real ks us = in_range_real (near (dot ks us) 1000000)

pub line_real : (x1 f1 x2 f2 x : ℤ) → IsValueIfAny Real (real_line x1 f1 x2 f2 x)
line_real x1 f1 x2 f2 x = choose_any Real (int_lt x1 x2) (in_range (near (line_upper x1 f1 x2 f2 x) (unsigned_abs (x2 -ℤ x1)))) None (in_range_real (near (line_upper x1 f1 x2 f2 x) (unsigned_abs (x2 -ℤ x1)))) tt

pub two_typed : (r s : ValueType) (a b : ℤ) (y : List ℤ) → IsValue r a → IsValue s b → Some (a ∷ b ∷ []) ≡ Some y → AreValues (typed (r ∷ s ∷ [])) y
two_typed r s a b y f g e = let h : a ∷ b ∷ [] ≡ y = cc in subst (λ (z : List ℤ). AreValues (typed (r ∷ s ∷ [])) z) h (two_values r s a b f g)

pub three_typed : (r s t : ValueType) (a b c : ℤ) (y : List ℤ) → IsValue r a → IsValue s b → IsValue t c → Some (a ∷ b ∷ c ∷ []) ≡ Some y → AreValues (typed (r ∷ s ∷ t ∷ [])) y
three_typed r s t a b c y f g k e = let h : a ∷ b ∷ c ∷ [] ≡ y = cc in subst (λ (z : List ℤ). AreValues (typed (r ∷ s ∷ t ∷ [])) z) h (three_values r s t a b c f g k)

pub copies_typed : (t : ValueType) (n : ℕ) (w : ℤ) (y : List ℤ) → IsValue t w → Some (replicate n w) ≡ Some y → AreValues (alike t n) y
copies_typed t n w y f e =
    let g : replicate n w ≡ y = cc in
    subst (λ (z : List ℤ). AreValues (alike t n) z) g (record { size = length-replicate n w; each = λ i l. rw (get_or-replicate n i w (pos 0) l) f })

pub each_real : (xs : List ℤ) → ((i : ℕ) → i < length xs → InRange (word xs i)) → EachReal xs
each_real [] f = tt
each_real (x ∷ xs) f = (f 0 (omega arith), each_real xs (λ i l. f (suc i) (omega arith)))

pub least_real : (us : List ℤ) → EachReal us → InRange (least us)
least_real [] s = omega arith
least_real (u ∷ []) s = s.0
least_real (u ∷ w ∷ us) s = choose_value Real (int_le u (least (w ∷ us))) u (least (w ∷ us)) s.0 (least_real (w ∷ us) s.1)

pub added_in_range : (now y : ℤ) → IsTime now → IsAdded now y → InRange y
added_in_range now y l s = omega (arith, ints, l.0, l.1, s.0, s.1)

pub million_in_range : (z : ℤ) → unsigned_abs z ≤ 2147483647 → InRange (z *ℤ pos 1000000)
million_in_range z l = omega (arith, ints)
