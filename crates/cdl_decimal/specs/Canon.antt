-- The canonical text of a count.
use Rattle.std.specs.Prelude.{ℕ, zero, suc, ◌+◌, ◌/◌, ◌%◌, ◌^◌, ℤ, pos, unsigned_abs, ◌==◌, cond, List, [], ◌∷◌, ◌++◌, map}
use Rattle.std.specs.Int.RustNames.{int_lt}
use Rattle.std.specs.Int.Digits.{digits_of}

-- the digit that writes a number below ten
abbrev pub digit : ℕ → ℕ
digit d = 48 + d

-- a whole number in decimal, without leading zeros, and `0` for none
abbrev pub decimal : ℕ → List ℕ
decimal n = cond (n == 0) (48 ∷ []) (map digit (digits_of 10 n))

-- the digits behind the point of n / 10 ^ places, without the zeros at their end
abbrev pub places_of : ℕ → ℕ → List ℕ
places_of zero n = []
places_of (suc places) n = cond (n == 0) [] (digit (n / 10 ^ places) ∷ places_of places (n % 10 ^ places))

-- a point and its digits, or nothing where they are all zero
abbrev pub point_of : ℕ → List ℕ
point_of n = cond (n == 0) [] (46 ∷ places_of 6 n)

abbrev pub sign_of : ℤ → List ℕ
sign_of c = cond (int_lt c (pos 0)) (45 ∷ []) []

-- `-` if negative, the whole part, and where the rest is not zero `.` and its digits without trailing zeros
unfoldable pub canon : ℤ → List ℕ
canon c = sign_of c ++ decimal (unsigned_abs c / 1000000) ++ point_of (unsigned_abs c % 1000000)
