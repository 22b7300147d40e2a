-- The bytes of a file and the tokens in them.
use Rattle.std.specs.Prelude.{ℕ, ◌<◌, ◌≤◌, List, [], ◌∷◌, All, length, slice_range}
use Rattle.cdl_source.specs.declared.place.Token.{Token}

-- what contracts see of `Tokens`
pub record TokenList : Type 0 where
  pub file : ℕ
  pub bytes : List ℕ
  pub items : List Token

-- a token's text: from the first byte of its span up to the one behind its last
abbrev pub text_of : List ℕ → Token → List ℕ
text_of bytes t = slice_range bytes t.span.start t.span.end

-- The token has one byte or more, and they lie in the text.
pub record LiesWithin (bytes : List ℕ) (t : Token) : Type 0 where
  pub order : t.span.start < t.span.end
  pub within : t.span.end ≤ length bytes

abbrev pub LieWithin : List ℕ → List Token → Type 0
LieWithin bytes ts = All (LiesWithin bytes) ts

-- Each token has one byte or more, and begins where the one before it ends or behind that; the first one does not begin before
-- the byte `from`.
abbrev pub RiseFrom : ℕ → List Token → Type 0
RiseFrom from [] = Unit {0}
RiseFrom from (t ∷ ts) = (from ≤ t.span.start) × (t.span.start < t.span.end) × RiseFrom t.span.end ts

abbrev pub Rise : List Token → Type 0
Rise ts = RiseFrom 0 ts
