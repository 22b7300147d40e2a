-- How tokens are spelled.
use Rattle.std.specs.Prelude.{◌≡◌, ℕ, ◌<◌, Bool, true, false, ◌&&◌, ◌||◌, ◌==◌, List, [], ◌∷◌, ◌++◌, length, codes}
use Rattle.std.specs.List.{list_all, list_any}
use Rattle.cdl_source.specs.Identifiers.{is_initial, is_word_byte, is_keyword}
use Rattle.cdl_source.specs.declared.place.TokenSort.{TokenSort}
use Rattle.cdl_source.specs.declared.place.TokenSort.TheVariants.{Identifier, Integer, Real, Str, Keyword, Symbol}
use Rattle.cdl_decimal.specs.Spells.{AllDigits, IsFraction, IsExponent}

abbrev pub Bytes : Type 0
Bytes = List ℕ

-- space, tab, carriage return, line feed, form feed
abbrev pub is_blank : ℕ → Bool
is_blank c = c == 32 || c == 9 || c == 13 || c == 10 || c == 12

-- the symbols of one byte
unfoldable pub symbols : Bytes
symbols = codes "()[]{};,.:=+-*/^<>"

unfoldable pub is_symbol : ℕ → Bool
is_symbol c = list_any (λ k. k == c) symbols

-- the symbols of two bytes: <= >= == <>
abbrev pub is_pair : ℕ → ℕ → Bool
is_pair c d = ((c == 60 || c == 62 || c == 61) && d == 61) || (c == 60 && d == 62)

-- what may stand behind a backslash: ' " ? \ a b f n r t v
unfoldable pub is_escape : ℕ → Bool
is_escape c = c == 39 || c == 34 || c == 63 || c == 92 || c == 97 || c == 98 || c == 102 || c == 110 || c == 114 || c == 116 || c == 118

-- What stands between the quotes of a string: bytes but quotes and backslashes, and escapes.
pub data IsInside : Bytes → Type 0 where
  nothing : IsInside []
  plain : (c : ℕ) {b : Bytes} → (c == 34) ≡ false → (c == 92) ≡ false → IsInside b → IsInside (c ∷ b)
  escape : (c : ℕ) {b : Bytes} → is_escape c ≡ true → IsInside b → IsInside (92 ∷ c ∷ b)

-- the texts of tokens, and what they are
pub data Spelling : Bytes → TokenSort → Type 0 where
  identifier : (c : ℕ) (cs : Bytes) → is_initial c ≡ true → list_all is_word_byte cs ≡ true → is_keyword (c ∷ cs) ≡ false → Spelling (c ∷ cs) Identifier
  keyword : (s : Bytes) → is_keyword s ≡ true → Spelling s Keyword
  integer : (ds : Bytes) → 0 < length ds → AllDigits ds → Spelling ds Integer
  real : (ds f x : Bytes) {fs xs : Bytes} {m : Bool} → 0 < length ds → AllDigits ds → IsFraction f fs → IsExponent x m xs → 0 < length (f ++ x)
      → Spelling (ds ++ (f ++ x)) Real
  string : (b : Bytes) → IsInside b → Spelling (34 ∷ (b ++ 34 ∷ [])) Str
  symbol : (c : ℕ) → is_symbol c ≡ true → Spelling (c ∷ []) Symbol
  pair : (c d : ℕ) → is_pair c d ≡ true → Spelling (c ∷ d ∷ []) Symbol
