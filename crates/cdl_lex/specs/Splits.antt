-- How a text splits into gaps and tokens.
use Rattle.std.specs.Prelude.{◌≡◌, ℕ, ◌+◌, Bool, true, false, ◌||◌, ◌==◌, if◌then◌else◌, List, [], ◌∷◌, ◌++◌, length, take, drop}
use Rattle.std.specs.List.{list_all}
use Rattle.std.specs.Str.{bytes_eq}
use Rattle.cdl_source.specs.declared.place.TokenSort.{TokenSort}
use Rattle.cdl_source.specs.declared.place.Token.{Token}
use Rattle.cdl_lex.specs.Spellings.{Bytes, is_blank, Spelling}

-- s stands before b, and no longer slice from the first byte of s is a spelling.
abbrev pub IsLongest : Bytes → Bytes → Type 0
IsLongest s b = (x : ℕ) (m r : Bytes) (k : TokenSort) → b ≡ x ∷ (m ++ r) → Spelling (s ++ x ∷ m) k → ⊥

-- The symbol / does not stand directly before / or *.
abbrev pub StandsApart : Bytes → Bytes → Type 0
StandsApart s b = s ≡ 47 ∷ [] → (c : ℕ) (r : Bytes) → b ≡ c ∷ r → (c == 47 || c == 42) ≡ false

-- s, which stands before b, is a token of this sort.
pub record IsToken (s : Bytes) (k : TokenSort) (b : Bytes) : Type 0 where
  pub spelling : Spelling s k
  pub longest : IsLongest s b
  pub apart : StandsApart s b

-- a byte of a comment that ends with its line
abbrev pub is_inner : ℕ → Bool
is_inner c = if c == 10 then false else true

-- a line feed, or the end of the text
abbrev pub EndsLine : Bytes → Type 0
EndsLine b = (c : ℕ) (r : Bytes) → b ≡ c ∷ r → is_inner c ≡ false

-- */ stands nowhere in the bytes.
abbrev pub HoldsNoClose : Bytes → Type 0
HoldsNoClose b = (u v : Bytes) → b ≡ u ++ 42 ∷ 47 ∷ v → ⊥

-- s, which stands before b, is a blank or a comment: // up to a line feed or the end, or /* up to the next */.
pub data IsGap : Bytes → Bytes → Type 0 where
  blank : (c : ℕ) (b : Bytes) → is_blank c ≡ true → IsGap (c ∷ []) b
  line : (s b : Bytes) → list_all is_inner s ≡ true → EndsLine b → IsGap (47 ∷ 47 ∷ s) b
  block : (s b : Bytes) → HoldsNoClose s → IsGap (47 ∷ 42 ∷ (s ++ 42 ∷ 47 ∷ [])) b

-- the token of so many bytes from the byte `at` on
abbrev pub token : TokenSort → ℕ → ℕ → Token
token k at size = record { sort = k; span = record { start = at; end = at + size } }

-- The bytes, the first of which is the byte `at` of a text, are gaps and these tokens in turn, and then a rest.
pub data Reaches : ℕ → Bytes → List Token → Bytes → Type 0 where
  here : (at : ℕ) (b : Bytes) → Reaches at b [] b
  gap_then : {at : ℕ} {s b r : Bytes} {ts : List Token} → IsGap s b → Reaches (at + length s) b ts r → Reaches at (s ++ b) ts r
  token_then : {at : ℕ} {s b r : Bytes} {ts : List Token} {k : TokenSort} → IsToken s k b → Reaches (at + length s) b ts r
      → Reaches at (s ++ b) (token k at (length s) ∷ ts) r

-- how many bytes a byte order mark at the very start takes
abbrev pub mark : Bytes → ℕ
mark bytes = if bytes_eq (take 3 bytes) (239 ∷ 187 ∷ 191 ∷ []) then 3 else 0

-- The text, but for its mark, is gaps and these tokens in turn, and then a rest.
abbrev pub Begins : Bytes → List Token → Bytes → Type 0
Begins bytes ts r = Reaches (mark bytes) (drop (mark bytes) bytes) ts r

-- The text splits into these tokens.
abbrev pub Splits : Bytes → List Token → Type 0
Splits bytes ts = Begins bytes ts []

-- There are more bytes, and neither a blank nor a comment nor a token begins them.
pub record NothingBegins (r : Bytes) : Type 0 where
  pub more : r ≡ [] → ⊥
  pub no_gap : (s b : Bytes) → r ≡ s ++ b → IsGap s b → ⊥
  pub no_token : (s b : Bytes) (k : TokenSort) → r ≡ s ++ b → IsToken s k b → ⊥
