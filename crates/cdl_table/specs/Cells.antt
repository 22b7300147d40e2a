-- What one field of a table says.
use Rattle.std.specs.Prelude.{◌+◌, ◌*◌, ◌||◌, ◌&&◌, ◌==◌, ℕ, ℤ, pos, neg_ℤ, List, [], ◌∷◌, length, codes, Option, Some, None, nat_le, option_and_then, option_map, if◌then◌else◌}
use Rattle.std.specs.Result.{result_ok}
use Rattle.std.specs.Char.{is_ascii_digit, digit_value}
use Rattle.std.specs.Str.{bytes_eq}
use Rattle.cdl_source.specs.declared.limits.TheConstants.{LARGEST_INTEGER, LATEST_TIME}
use Rattle.cdl_decimal.specs.Split.{parse_of}
use Rattle.cdl_values.specs.declared.value.ValueType.{ValueType}
use Rattle.cdl_values.specs.declared.value.ValueType.TheVariants.{Boolean, Integer, Real, Str, Enumeration}

-- the number whose decimal digits are those of n and then these, unless one is no digit
abbrev pub digits_after : ℕ → List ℕ → Option ℕ
digits_after n [] = Some n
digits_after n (d ∷ ds) = if is_ascii_digit d then digits_after (10 * n + digit_value d) ds else None

abbrev pub up_to : ℕ → ℕ → Option ℕ
up_to greatest n = if nat_le n greatest then Some n else None

-- the number that at least one and at most so many decimal digits write, where it is not above the greatest
abbrev pub number_of : ℕ → ℕ → List ℕ → Option ℕ
number_of most greatest field =
    if nat_le 1 (length field) && nat_le (length field) most then option_and_then (up_to greatest) (digits_after 0 field) else None

-- the milliseconds of a field: 1 to 14 decimal digits, of a number up to the latest time
abbrev pub time_of : List ℕ → Option ℤ
time_of field = option_map pos (number_of 14 LATEST_TIME field)

-- the word of a Boolean: true is written `true` or `1`, and false `false` or `0`
abbrev pub boolean_word : List ℕ → Option ℤ
boolean_word field =
    if bytes_eq field (codes "true") || bytes_eq field (codes "1") then Some (pos 1)
    else if bytes_eq field (codes "false") || bytes_eq field (codes "0") then Some (pos 0)
    else None

-- the magnitude of an Integer: 1 to 10 decimal digits, of a number up to the largest
abbrev pub magnitude_of : List ℕ → Option ℕ
magnitude_of digits = number_of 10 LARGEST_INTEGER digits

abbrev pub negative : ℕ → ℤ
negative n = neg_ℤ (pos n)

-- the word of an Integer: its magnitude, behind a `-` where it is negative
abbrev pub integer_word : List ℕ → Option ℤ
integer_word [] = None
integer_word (b ∷ bs) = if b == 45 then option_map negative (magnitude_of bs) else option_map pos (magnitude_of (b ∷ bs))

-- the word of a Real: the count of millionths of a decimal text
abbrev pub real_word : List ℕ → Option ℤ
real_word field = result_ok (parse_of field)

-- the word of a field, as a value of this type; no text is a value of another type
abbrev pub word_of : ValueType → List ℕ → Option ℤ
word_of Boolean field = boolean_word field
word_of Integer field = integer_word field
word_of Real field = real_word field
word_of Str field = None
word_of (Enumeration c) field = None
