-- A few words that are values.
use Rattle.std.proofs.Common.{ℕ, zero, suc, ◌<◌, ◌≡◌, inl, inr, refl, subst, ℤ, List, [], ◌∷◌, Bool, true, false, arith}
use Rattle.std.specs.Prelude.{IsSome, unsigned_abs, ◌≤◌}
use Rattle.std.proofs.lemmas.Bool.Decides.{nat_tests}
use Rattle.cdl_decimal.specs.Near.{InRange}
use Rattle.cdl_values.specs.declared.value.ValueType.{ValueType}
use Rattle.cdl_values.specs.declared.value.ValueType.TheVariants.{Boolean, Integer}
use Rattle.cdl_values.specs.History.{AreValues, History, Signature, IsHistory, IsValue, Meaning, before, bit, booleans, integer, integers, reals, nth_type, typed, word}
use Rattle.cdl_kinds.specs.States.{padded}
use Rattle.cdl_kind_laws.proofs.Widths.{length-padded}

pub bit_value : (b : Bool) → IsValue Boolean (bit b)
bit_value true = inr refl
bit_value false = inl refl

pub one_word : (t : ValueType) (a : ℤ) → IsValue t a → (i : ℕ) → i < 1 → IsValue t (word (a ∷ []) i)
one_word t a f zero l = f
one_word t a f (suc i) l = absurd (omega arith)

pub one_boolean : (a : ℤ) → IsValue Boolean a → AreValues (booleans 1) (a ∷ [])
one_boolean a f = record { size = refl; each = one_word Boolean a f }

pub one_integer : (a : ℤ) → IsValue Integer a → AreValues (integers 1) (a ∷ [])
one_integer a f = record { size = refl; each = one_word Integer a f }

two_words : (r s : ValueType) (a b : ℤ) → IsValue r a → IsValue s b → (i : ℕ) → i < 2 → IsValue (nth_type (r ∷ s ∷ []) i) (word (a ∷ b ∷ []) i)
two_words r s a b f g zero l = f
two_words r s a b f g (suc zero) l = g
two_words r s a b f g (suc (suc i)) l = absurd (omega arith)

two_alike : (t : ValueType) (a b : ℤ) → IsValue t a → IsValue t b → (i : ℕ) → i < 2 → IsValue t (word (a ∷ b ∷ []) i)
two_alike t a b f g zero l = f
two_alike t a b f g (suc zero) l = g
two_alike t a b f g (suc (suc i)) l = absurd (omega arith)

pub two_booleans : (a b : ℤ) → IsValue Boolean a → IsValue Boolean b → AreValues (booleans 2) (a ∷ b ∷ [])
two_booleans a b f g = record { size = refl; each = two_alike Boolean a b f g }

pub two_values : (r s : ValueType) (a b : ℤ) → IsValue r a → IsValue s b → AreValues (typed (r ∷ s ∷ [])) (a ∷ b ∷ [])
two_values r s a b f g = record { size = refl; each = two_words r s a b f g }

three_words : (r s t : ValueType) (a b c : ℤ) → IsValue r a → IsValue s b → IsValue t c → (i : ℕ) → i < 3 → IsValue (nth_type (r ∷ s ∷ t ∷ []) i) (word (a ∷ b ∷ c ∷ []) i)
three_words r s t a b c f g k zero l = f
three_words r s t a b c f g k (suc zero) l = g
three_words r s t a b c f g k (suc (suc zero)) l = k
three_words r s t a b c f g k (suc (suc (suc i))) l = absurd (omega arith)

pub three_values : (r s t : ValueType) (a b c : ℤ) → IsValue r a → IsValue s b → IsValue t c → AreValues (typed (r ∷ s ∷ t ∷ [])) (a ∷ b ∷ c ∷ [])
three_values r s t a b c f g k = record { size = refl; each = three_words r s t a b c f g k }

-- each of these is a Real
abbrev pub EachReal : List ℤ → Type 0
EachReal [] = Unit {0}
EachReal (x ∷ xs) = InRange x × EachReal xs

padded_each : (n : ℕ) (xs : List ℤ) → EachReal xs → (i : ℕ) → i < n → InRange (word (padded n xs) i)
padded_each zero xs r i l = absurd (omega arith)
padded_each (suc n) [] r zero l = omega arith
padded_each (suc n) [] r (suc i) l = padded_each n [] r i (omega arith)
padded_each (suc n) (x ∷ xs) r zero l = r.0
padded_each (suc n) (x ∷ xs) r (suc i) l = padded_each n xs r.1 i (omega arith)

pub padded_reals : (n : ℕ) (xs : List ℤ) → EachReal xs → AreValues (reals n) (padded n xs)
padded_reals n xs r = record { size = length-padded n xs; each = padded_each n xs r }

pub integer_fits : (z : ℤ) → IsSome (integer z) → unsigned_abs z ≤ 2147483647
integer_fits z h = grind (arith, nat_tests)

-- the word of an input at the latest tick is a value of its type, as the word before any is
pub before_value : {p : Signature} {m : Meaning} (t : ValueType) (w : ℤ) (i : ℕ) (h : History) → i < p.count → p.value_type i ≡ t → IsValue t w → IsHistory p m h → IsValue t (before w i h)
before_value t w i [] l e f s = f
before_value t w i (a ∷ h) l e f s = subst (λ (r : ValueType). IsValue r (word a.ins i)) e (s.ticks.2.each i l)
