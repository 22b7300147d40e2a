-- What holds of the tokens that `lex` finds.
use Rattle.std.specs.Prelude.{◌≤◌, List, All, length}
use Rattle.cdl_source.specs.declared.limits.TheConstants.{LONGEST_MODEL}
use Rattle.std.specs.Str.{IsUtf8}
use Rattle.cdl_source.specs.declared.place.Token.{Token}
use Rattle.cdl_lex.specs.Spellings.{Bytes, Spelling}
use Rattle.cdl_lex.specs.TokenList.{text_of, LieWithin, Rise}
use Rattle.cdl_lex.specs.Limits.{IsPastLimits}
use Rattle.cdl_lex.specs.Splits.{Splits}
use Rattle.cdl_lex.specs.Rules.{BreaksNone}

-- The token's text is a spelling of its sort.
abbrev pub IsSpelled : Bytes → Token → Type 0
IsSpelled bytes t = Spelling (text_of bytes t) t.sort

abbrev pub AreSpelled : Bytes → List Token → Type 0
AreSpelled bytes ts = All (IsSpelled bytes) ts

-- A literal or an identifier is within its limits.
abbrev pub FitsLimits : Bytes → Token → Type 0
FitsLimits bytes t = IsPastLimits bytes t → ⊥

abbrev pub FitLimits : Bytes → List Token → Type 0
FitLimits bytes ts = All (FitsLimits bytes) ts

-- The text breaks no rule, and splits into these tokens. So it is short and UTF-8, there are at most as many tokens as bytes, they lie
-- in the text in order, their texts are spellings, and literals and identifiers are within their limits.
pub record AreTokens (bytes : Bytes) (ts : List Token) : Type 0 where
  pub unbroken : BreaksNone bytes
  pub splits : Splits bytes ts
  pub short : length bytes ≤ LONGEST_MODEL
  pub utf8 : IsUtf8 bytes
  pub few : length ts ≤ length bytes
  pub within : LieWithin bytes ts
  pub rise : Rise ts
  pub spelled : AreSpelled bytes ts
  pub fit : FitLimits bytes ts
