-- What blocks of Reals mean. A Real is a count of millionths.
use Rattle.std.specs.Prelude.{ℤ, pos, ◌+ℤ◌, ◌-ℤ◌, Bool, cond, List, [], ◌∷◌, Option, Some}
use Rattle.std.specs.Int.RustNames.{int_le, int_lt}
use Rattle.cdl_decimal.specs.Counts.{real_add, real_mul, real_line, real_weighted_sum, real_mean}
use Rattle.cdl_values.specs.History.{History, Meaning, word, flag, one}
use Rattle.cdl_kinds.specs.Meaning.Integers.{magnitude}
use Rattle.cdl_values.specs.Extremes.{greater_of, lesser_of}

abbrev pub absolute : ℤ → Option ℤ
absolute a = Some (magnitude a)

abbrev pub greater : ℤ → ℤ → Option ℤ
greater a b = Some (greater_of a b)

abbrev pub lesser : ℤ → ℤ → Option ℤ
lesser a b = Some (lesser_of a b)

-- a function of one Real, and of two
abbrev pub real_of_one : (ℤ → Option ℤ) → Meaning
real_of_one f h now x = one (f (word x 0))

abbrev pub real_of_two : (ℤ → ℤ → Option ℤ) → Meaning
real_of_two f h now x = one (f (word x 0) (word x 1))

abbrev pub real_add_parameter : ℤ → Meaning
real_add_parameter p h now x = one (real_add (word x 0) p)

abbrev pub real_multiply_by_parameter : ℤ → Meaning
real_multiply_by_parameter k h now x = one (real_mul (word x 0) k)

abbrev pub average : Meaning
average h now x = one (real_mean (word x 0 ∷ word x 1 ∷ []))

abbrev pub real_multi_sum : List ℤ → Meaning
real_multi_sum k h now x = one (real_weighted_sum k x)

abbrev pub extreme : (List ℤ → ℤ) → Meaning
extreme f h now x = Some (f x ∷ [])

-- y at the latest tick, or this before any, where y follows from the y before and the inputs
abbrev pub remembered : (Bool → List ℤ → Bool) → Bool → History → Bool
remembered f start [] = start
remembered f start (t ∷ h) = f (remembered f start h) t.ins

abbrev pub remembering : (Bool → List ℤ → Bool) → Bool → Meaning
remembering f start h now x = flag (f (remembered f start h) x)

-- u1 above u2, or above u2 less d where y was true
abbrev pub above : ℤ → Bool → List ℤ → Bool
above d y x = int_lt (word x 1 -ℤ cond y d (pos 0)) (word x 0)

-- u1 below u2, or below u2 and d where y was true
abbrev pub below : ℤ → Bool → List ℤ → Bool
below d y x = int_lt (word x 0) (word x 1 +ℤ cond y d (pos 0))

-- the same with t for u2
abbrev pub above_threshold : ℤ → ℤ → Bool → List ℤ → Bool
above_threshold t d y x = int_lt (t -ℤ cond y d (pos 0)) (word x 0)

abbrev pub below_threshold : ℤ → ℤ → Bool → List ℤ → Bool
below_threshold t d y x = int_lt (word x 0) (t +ℤ cond y d (pos 0))

-- u not below the low one where y was true, else above the high one
abbrev pub between : ℤ → ℤ → Bool → List ℤ → Bool
between low high y x = cond y (int_le low (word x 0)) (int_lt high (word x 0))

-- u, at most the most and at least the least
abbrev pub limiter : ℤ → ℤ → Meaning
limiter most least h now x = Some (greater_of least (lesser_of most (word x 0)) ∷ [])

-- where on the line: u, at least x1 if limited below, at most x2 if limited above
abbrev pub limited : Bool → Bool → ℤ → ℤ → ℤ → ℤ
limited low high x1 x2 u = cond high (lesser_of x2 (cond low (greater_of x1 u) u)) (cond low (greater_of x1 u) u)

-- the height there of the line through (x1, f1) and (x2, f2); the inputs are x1, f1, x2, f2 and u
abbrev pub line_through : Bool → Bool → Meaning
line_through low high h now x =
    one (real_line (word x 0) (word x 1) (word x 2) (word x 3) (limited low high (word x 0) (word x 2) (word x 4)))
