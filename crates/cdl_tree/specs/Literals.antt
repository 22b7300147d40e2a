-- What the texts of literals mean.
use Rattle.std.specs.Prelude.{◌≡◌, ℕ, ◌+◌, ◌-◌, ◌*◌, ◌++◌, ℤ, pos, false, ◌&&◌, ◌||◌, ◌==◌, nat_le, if◌then◌else◌, List, [], ◌∷◌, Option, Some, None, Ok}
use Rattle.cdl_source.specs.declared.limits.TheConstants.{LARGEST_INTEGER}
use Rattle.std.specs.Char.{is_ascii_digit}
use Rattle.std.specs.List.{list_all}
use Rattle.cdl_decimal.specs.Spells.{number, Parses}

-- the number that digits write, where it is not too great
unfoldable pub integer_of : List ℕ → Option ℤ
integer_of text = if list_all is_ascii_digit text && nat_le (number text) LARGEST_INTEGER then Some (pos (number text)) else None

-- the number with a digit more behind it, where it is not too great
abbrev pub with_digit : ℕ → ℕ → Option ℕ
with_digit n d = if is_ascii_digit d && nat_le (n * 10 + (d - 48)) LARGEST_INTEGER then Some (n * 10 + (d - 48)) else None

-- the number that digits write behind those of n, digit by digit
abbrev pub integer_from : Option ℕ → List ℕ → Option ℕ
integer_from None ds = None
integer_from (Some n) [] = Some n
integer_from (Some n) (d ∷ ds) = integer_from (with_digit n d) ds

-- q is the count of millionths that the text of a number is read as.
abbrev pub IsReal : List ℕ → ℤ → Type 0
IsReal text q = Parses text (Ok q)

-- the byte that an escape stands for, by the byte behind its backslash: ' " ? \ for themselves, then a b f n r t v
abbrev pub escaped : ℕ → Option ℕ
escaped c =
    if c == 39 || c == 34 || c == 63 || c == 92 then Some c else
    (if c == 97 then Some 7 else
    (if c == 98 then Some 8 else
    (if c == 102 then Some 12 else
    (if c == 110 then Some 10 else
    (if c == 114 then Some 13 else
    (if c == 116 then Some 9 else
    (if c == 118 then Some 11 else None)))))))

-- What the bytes between the quotes of a string mean: a byte that is neither a quote nor a backslash means itself, and a backslash with
-- the byte behind it the byte that this escape stands for.
pub data Means : List ℕ → List ℕ → Type 0 where
  nothing : Means [] []
  plain : (c : ℕ) {b s : List ℕ} → (c == 34) ≡ false → (c == 92) ≡ false → Means b s → Means (c ∷ b) (c ∷ s)
  escape : (c : ℕ) {d : ℕ} {b s : List ℕ} → escaped c ≡ Some d → Means b s → Means (92 ∷ c ∷ b) (d ∷ s)

-- The text is a quote, bytes that mean the value, and a quote.
pub record IsString (text value : List ℕ) : Type 0 where
  pub inside : List ℕ
  pub quoted : text ≡ 34 ∷ (inside ++ 34 ∷ [])
  pub means : Means inside value
