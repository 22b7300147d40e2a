-- A decimal text split from its front on, and the count that it is read as.
use Rattle.std.specs.Prelude.{ℕ, ◌+◌, ℤ, pos, ◌*ℤ◌, Bool, false, ◌&&◌, ◌||◌, ◌==◌, nat_lt, cond, List, [], ◌∷◌, ◌++◌, length, take, drop, Option, Some, None, Result, Err, ok_or}
use Rattle.std.specs.Char.{is_ascii_digit}
use Rattle.std.specs.List.{prefix_len, list_all}
use Rattle.cdl_decimal.specs.Near.{near, in_range}
use Rattle.cdl_decimal.specs.Spells.{Parts, AllDigits, number, upper, lower}
use Rattle.cdl_decimal.specs.declared.numeral.DecimalError.{DecimalError}
use Rattle.cdl_decimal.specs.declared.numeral.DecimalError.TheVariants.{NotDecimal, TooLong, OutOfRange}
use Rattle.cdl_decimal.specs.declared.numeral.Numeral.{Numeral}

-- whether a `-` stands in front
abbrev pub is_minus : List ℕ → Bool
is_minus [] = false
is_minus (b ∷ bs) = b == 45

-- what stands behind a sign
abbrev pub after_sign : List ℕ → List ℕ
after_sign [] = []
after_sign (b ∷ bs) = cond (b == 45 || b == 43) bs (b ∷ bs)

-- the digits in front
abbrev pub digits_front : List ℕ → List ℕ
digits_front bs = take (prefix_len is_ascii_digit bs) bs

-- what stands behind them
abbrev pub digits_back : List ℕ → List ℕ
digits_back bs = drop (prefix_len is_ascii_digit bs) bs

-- the digits behind a point in front
abbrev pub fraction_front : List ℕ → List ℕ
fraction_front [] = []
fraction_front (b ∷ bs) = cond (b == 46) (digits_front bs) []

-- what stands behind the point and its digits
abbrev pub fraction_back : List ℕ → List ℕ
fraction_back [] = []
fraction_back (b ∷ bs) = cond (b == 46) (digits_back bs) (b ∷ bs)

-- digits alone, at least one
abbrev pub is_numeral : List ℕ → Bool
is_numeral ds = nat_lt 0 (length ds) && list_all is_ascii_digit ds

-- the sign and the digits of an exponent, where the bytes are one or none
pub record Exponent : Type 0 where
  pub negative : Bool
  pub digits : List ℕ

abbrev pub exponent_of : List ℕ → Option Exponent
exponent_of [] = Some (record { negative = false; digits = [] })
exponent_of (b ∷ bs) =
    cond ((b == 101 || b == 69) && is_numeral (after_sign bs)) (Some (record { negative = is_minus bs; digits = after_sign bs })) None

abbrev pub parts_with : Bool → List ℕ → List ℕ → Option Exponent → Option Parts
parts_with negative whole fraction None = None
parts_with negative whole fraction (Some e) =
    Some (record { negative = negative; whole = whole; fraction = fraction; exponent_negative = e.negative; exponent = e.digits })

-- the parts of a decimal text
unfoldable pub split : List ℕ → Option Parts
split bytes =
    let body = after_sign bytes in
    let rest = digits_back body in
    cond (length (digits_front body) == 0) None (parts_with (is_minus bytes) (digits_front body) (fraction_front rest) (exponent_of (fraction_back rest)))

abbrev pub is_long : Parts → Bool
is_long p = nat_lt 30 (length p.whole + length p.fraction) || nat_lt 3 (length p.exponent)

-- the number that the digits before the exponent write
abbrev pub significand : Parts → ℕ
significand p = number (p.whole ++ p.fraction)

-- the parts are digits
pub record AreDigits (p : Parts) : Type 0 where
  pub whole : AllDigits p.whole
  pub fraction : AllDigits p.fraction
  pub exponent : AllDigits p.exponent

-- the count of the fraction that a text spells, where it is in range
unfoldable pub count_of : Parts → Option ℤ
count_of p = in_range (near (upper p *ℤ pos 1000000) (lower p))

abbrev pub judged : Option Parts → Result ℤ DecimalError
judged None = Err NotDecimal
judged (Some p) = cond (is_long p) (Err TooLong) (ok_or (count_of p) OutOfRange)

-- what the bytes are read as
unfoldable pub parse_of : List ℕ → Result ℤ DecimalError
parse_of bytes = judged (split bytes)

-- the parts that slices hold
abbrev pub parts_of : Numeral → Parts
parts_of n =
    record {
      negative = n.negative;
      whole = n.whole.now;
      fraction = n.fraction.now;
      exponent_negative = n.exponent_negative;
      exponent = n.exponent.now;
    }
