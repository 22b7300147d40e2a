-- What blocks of Integers mean.
use Rattle.std.specs.Prelude.{ℤ, pos, ◌+ℤ◌, ◌-ℤ◌, ◌*ℤ◌, unsigned_abs, Bool, cond, not, List, [], ◌∷◌, Some}
use Rattle.std.specs.Int.RustNames.{int_le, int_lt}
use Rattle.std.specs.Ordering.{int_eq}
use Rattle.cdl_decimal.specs.Counts.{dot}
use Rattle.cdl_values.specs.History.{History, Meaning, tick, word, bit, flag, integer, before, rises}

abbrev pub magnitude : ℤ → ℤ
magnitude a = pos (unsigned_abs a)

abbrev pub sum_of : ℤ → ℤ → ℤ
sum_of a b = a +ℤ b

abbrev pub difference_of : ℤ → ℤ → ℤ
difference_of a b = a -ℤ b

abbrev pub product_of : ℤ → ℤ → ℤ
product_of a b = a *ℤ b

-- a function of one Integer, and of two
abbrev pub integer_of_one : (ℤ → ℤ) → Meaning
integer_of_one f h now x = integer (f (word x 0))

abbrev pub integer_of_two : (ℤ → ℤ → ℤ) → Meaning
integer_of_two f h now x = integer (f (word x 0) (word x 1))

abbrev pub integer_add_parameter : ℤ → Meaning
integer_add_parameter p h now x = integer (word x 0 +ℤ p)

-- the sum of the products with these factors; the products and sums on the way may be out of range
abbrev pub integer_multi_sum : List ℤ → Meaning
integer_multi_sum k h now x = integer (dot k x)

abbrev pub is_equal : ℤ → ℤ → Bool
is_equal a b = int_eq a b

abbrev pub is_greater : ℤ → ℤ → Bool
is_greater a b = int_lt b a

abbrev pub is_greater_equal : ℤ → ℤ → Bool
is_greater_equal a b = int_le b a

abbrev pub is_less : ℤ → ℤ → Bool
is_less a b = int_lt a b

abbrev pub is_less_equal : ℤ → ℤ → Bool
is_less_equal a b = int_le a b

abbrev pub compare : (ℤ → ℤ → Bool) → Meaning
compare f h now x = flag (f (word x 0) (word x 1))

abbrev pub compare_threshold : (ℤ → ℤ → Bool) → ℤ → Meaning
compare_threshold f t h now x = flag (f (word x 0) t)

-- with p the u before: whether u differs from p, is above it, is below it
abbrev pub changes : ℤ → ℤ → List ℤ
changes u p = bit (not (int_eq u p)) ∷ bit (int_lt p u) ∷ bit (int_lt u p) ∷ []

abbrev pub integer_change : ℤ → Meaning
integer_change start h now x = Some (changes (word x 0) (before start 0 h))

-- the count at the latest tick: as it starts where reset rises, else one more where trigger rises, else as before
abbrev pub counted : ℤ → History → ℤ
counted start [] = start
counted start (t ∷ h) = cond (rises h t.ins 1) start (counted start h +ℤ bit (rises h t.ins 0))

abbrev pub on_counter : ℤ → Meaning
on_counter start h now x = integer (counted start (tick now x ∷ h))
