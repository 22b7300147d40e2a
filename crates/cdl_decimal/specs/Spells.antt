-- The decimal texts: their form, and the fraction that each spells.
use Rattle.std.specs.Prelude.{ℕ, ◌+◌, ◌-◌, ◌*◌, ◌^◌, ◌<◌, ◌≤◌, ◌≡◌, ◌⊎◌, ℤ, pos, ◌*ℤ◌, neg_ℤ, Bool, true, false, cond, List, [], ◌∷◌, ◌++◌, length, Result, Ok, Err}
use Rattle.cdl_decimal.specs.Near.{IsNear, InRange}
use Rattle.cdl_decimal.specs.declared.numeral.DecimalError.{DecimalError}
use Rattle.cdl_decimal.specs.declared.numeral.DecimalError.TheVariants.{NotDecimal, TooLong, OutOfRange}

-- one of the bytes `0` to `9`
abbrev pub IsDigit : ℕ → Type 0
IsDigit b = (48 ≤ b) × (b ≤ 57)

abbrev pub AllDigits : List ℕ → Type 0
AllDigits [] = Unit {0}
AllDigits (d ∷ ds) = IsDigit d × AllDigits ds

-- the number that digits write behind those of n
abbrev pub number_after : ℕ → List ℕ → ℕ
number_after n [] = n
number_after n (d ∷ ds) = number_after (n * 10 + (d - 48)) ds

abbrev pub number : List ℕ → ℕ
number ds = number_after 0 ds

-- an optional `+` or `-`, and whether it is `-`
pub data IsSign : List ℕ → Bool → Type 0 where
  none : IsSign [] false
  plus : IsSign (43 ∷ []) false
  minus : IsSign (45 ∷ []) true

-- nothing, or `.` and digits
pub data IsFraction : List ℕ → List ℕ → Type 0 where
  no_point : IsFraction [] []
  point : (ds : List ℕ) → AllDigits ds → IsFraction (46 ∷ ds) ds

-- nothing, or `e` or `E`, a sign and one or more digits
pub data IsExponent : List ℕ → Bool → List ℕ → Type 0 where
  no_exponent : IsExponent [] false []
  exponent : (e : ℕ) (s ds : List ℕ) (m : Bool) → (e ≡ 69) ⊎ (e ≡ 101) → IsSign s m → 0 < length ds → AllDigits ds → IsExponent (e ∷ s ++ ds) m ds

-- the parts of a decimal text: its signs, and the digits before the point, behind it, and of the exponent
pub record Parts : Type 0 where
  pub negative : Bool
  pub whole : List ℕ
  pub fraction : List ℕ
  pub exponent_negative : Bool
  pub exponent : List ℕ

-- The bytes are a decimal text of these parts.
pub record Spells (bytes : List ℕ) (p : Parts) : Type 0 where
  pub sign : List ℕ
  pub behind : List ℕ
  pub last : List ℕ
  pub is : bytes ≡ sign ++ (p.whole ++ (behind ++ last))
  pub signed : IsSign sign p.negative
  pub some : 0 < length p.whole
  pub digits : AllDigits p.whole
  pub fraction_is : IsFraction behind p.fraction
  pub exponent_is : IsExponent last p.exponent_negative p.exponent

abbrev pub with_sign : Bool → ℕ → ℤ
with_sign negative n = cond negative (neg_ℤ (pos n)) (pos n)

-- The fraction that a text spells is upper / lower.
abbrev pub upper : Parts → ℤ
upper p = with_sign p.negative (number (p.whole ++ p.fraction) * 10 ^ cond p.exponent_negative 0 (number p.exponent))

abbrev pub lower : Parts → ℕ
lower p = 10 ^ (length p.fraction + cond p.exponent_negative (number p.exponent) 0)

-- more than 30 digits before the exponent, or more than 3 in it
abbrev pub IsLong : Parts → Type 0
IsLong p = (30 < length p.whole + length p.fraction) ⊎ (3 < length p.exponent)

-- q is the count nearest to the fraction that the text spells.
pub record CountIs (p : Parts) (q : ℤ) : Type 0 where
  pub near : IsNear (upper p *ℤ pos 1000000) (lower p) q

-- What the bytes are read as: a count, or the first error that holds.
abbrev pub Parses : List ℕ → Result ℤ DecimalError → Type 0
Parses bytes (Ok q) = (p : Parts) × Spells bytes p × (IsLong p → ⊥) × CountIs p q × InRange q
Parses bytes (Err NotDecimal) = (p : Parts) → Spells bytes p → ⊥
Parses bytes (Err TooLong) = (p : Parts) × Spells bytes p × IsLong p
Parses bytes (Err OutOfRange) = (p : Parts) × (q : ℤ) × Spells bytes p × (IsLong p → ⊥) × CountIs p q × (InRange q → ⊥)
