-- What the steps of the lexer answer.
use Rattle.std.specs.Prelude.{◌≡◌, ℕ, ◌+◌, Bool, true, false, ◌&&◌, ◌||◌, ◌==◌, if◌then◌else◌, List, [], ◌∷◌, ◌++◌, length, drop, Option, Some, None, ℤ, Result, Ok, Err}
use Rattle.std.specs.List.{prefix_len}
use Rattle.cdl_source.specs.Identifiers.{is_initial, is_digit, is_keyword}
use Rattle.cdl_source.specs.declared.place.TokenSort.{TokenSort}
use Rattle.cdl_source.specs.declared.place.TokenSort.TheVariants.{Identifier, Integer, Real, Keyword}
use Rattle.cdl_source.specs.declared.place.Token.{Token}
use Rattle.cdl_decimal.specs.declared.numeral.DecimalError.{DecimalError}
use Rattle.cdl_decimal.specs.declared.numeral.DecimalError.TheVariants.{NotDecimal, TooLong, OutOfRange}
use Rattle.cdl_lex.specs.declared.piece.Piece.{Piece}
use Rattle.cdl_lex.specs.declared.split.Splitting.{Splitting}
use Rattle.cdl_lex.specs.declared.split.Splitting.TheVariants.{Whole, Stuck}
use Rattle.cdl_lex.specs.Spellings.{Bytes, is_blank, is_escape}
use Rattle.cdl_lex.specs.Splits.{IsGap, IsToken, Splits, token}
use Rattle.cdl_lex.specs.Rules.{IsNoToken}

-- what a word is
abbrev pub word_sort : Bytes → TokenSort
word_sort word = if is_keyword word then Keyword else Identifier

-- the first byte is c
abbrev pub begins : ℕ → Bytes → Bool
begins c [] = false
begins c (d ∷ ds) = d == c

-- how many bytes a point and digits take
unfoldable pub fraction_len : Bytes → ℕ
fraction_len [] = 0
fraction_len (c ∷ cs) = if c == 46 then 1 + prefix_len is_digit cs else 0

unfoldable pub sign_len : Bytes → ℕ
sign_len [] = 0
sign_len (c ∷ cs) = if c == 43 || c == 45 then 1 else 0

abbrev pub with_digits : ℕ → ℕ → ℕ
with_digits sign digits = if digits == 0 then 0 else 1 + sign + digits

-- how many bytes an exponent takes
unfoldable pub exponent_len : Bytes → ℕ
exponent_len [] = 0
exponent_len (c ∷ cs) = if c == 69 || c == 101 then with_digits (sign_len cs) (prefix_len is_digit (drop (sign_len cs) cs)) else 0

-- how many bytes of a number stand behind its first digits
unfoldable pub tail_len : Bytes → ℕ
tail_len b = fraction_len b + exponent_len (drop (fraction_len b) b)

abbrev pub number_sort : ℕ → TokenSort
number_sort tail = if tail == 0 then Integer else Real

abbrev pub plus : ℕ → Option ℕ → Option ℕ
plus n None = None
plus n (Some m) = Some (n + m)

-- How many bytes there are up to the quote that ends a string, it included. The flag says whether a backslash stands before them.
unfoldable pub inside_len : Bool → Bytes → Option ℕ
inside_len e [] = None
inside_len true (c ∷ cs) = if is_escape c then plus 1 (inside_len false cs) else None
inside_len false (c ∷ cs) = if c == 34 then Some 1 else (if c == 92 then plus 1 (inside_len true cs) else plus 1 (inside_len false cs))

-- how many bytes there are up to the next */, it included
unfoldable pub block_len : Bytes → Option ℕ
block_len [] = None
block_len (c ∷ cs) = if c == 42 && begins 47 cs then Some 2 else plus 1 (block_len cs)

-- The byte begins neither a gap nor a word, a number or a string.
pub record IsSign (c : ℕ) : Type 0 where
  pub no_blank : is_blank c ≡ false
  pub no_initial : is_initial c ≡ false
  pub no_digit : is_digit c ≡ false
  pub no_quote : (c == 34) ≡ false
  pub no_slash : (c == 47) ≡ false

-- The bytes begin with a gap, or with a token of this sort, of so many bytes.
pub data BeginsWith : Bytes → Option TokenSort → ℕ → Type 0 where
  with_gap : (s b : Bytes) → IsGap s b → BeginsWith (s ++ b) None (length s)
  with_token : (s b : Bytes) {k : TokenSort} → IsToken s k b → BeginsWith (s ++ b) (Some k) (length s)

abbrev pub IsPiece : Bytes → Piece → Type 0
IsPiece b p = BeginsWith b p.sort p.size

-- the tokens of a piece that begins at this byte
abbrev pub listed : ℕ → Option TokenSort → ℕ → List Token
listed at None size = []
listed at (Some k) size = token k at size ∷ []

-- These are the tokens into which the text splits, or it splits no further than to this byte.
abbrev pub IsSplit : Bytes → Splitting → Type 0
IsSplit bytes (Whole ts) = Splits bytes ts
IsSplit bytes (Stuck at) = IsNoToken bytes at

-- A decimal text is refused for its length or its magnitude.
abbrev pub refuses : Result ℤ DecimalError → Bool
refuses (Ok q) = false
refuses (Err NotDecimal) = false
refuses (Err TooLong) = true
refuses (Err OutOfRange) = true
