-- The rules of texts, and the first of them that a text breaks.
use Rattle.std.specs.Prelude.{◌≡◌, ◌<◌, ℕ, List, ◌∷◌, ◌++◌, length, drop}
use Rattle.cdl_source.specs.declared.limits.TheConstants.{LONGEST_MODEL}
use Rattle.cdl_source.specs.declared.rules.TheConstants.{MODEL_TOO_LONG, NOT_UTF8, NO_TOKEN, PAST_LIMITS, NESTED_TOO_DEEPLY, EXPRESSION_TOO_LONG}
use Rattle.std.specs.Str.{IsValidUpTo}
use Rattle.cdl_source.specs.declared.place.Token.{Token}
use Rattle.cdl_lex.specs.Spellings.{Bytes}
use Rattle.cdl_lex.specs.Splits.{Begins, Splits, NothingBegins}
use Rattle.cdl_lex.specs.Limits.{IsPastLimits, IsTooDeep, IsTooMany}

-- C1: the text is too long, from this byte on.
pub record IsTooLong (bytes : Bytes) (at : ℕ) : Type 0 where
  pub long : LONGEST_MODEL < length bytes
  pub place : at ≡ LONGEST_MODEL

-- C2: the text is not UTF-8, and its longest front that is UTF-8 ends at this byte.
abbrev pub IsNotUtf8 : Bytes → ℕ → Type 0
IsNotUtf8 bytes at = IsValidUpTo bytes at

-- C3: the bytes before this one are gaps and tokens in turn, and here neither a blank nor a comment nor a token begins.
pub record IsNoToken (bytes : Bytes) (at : ℕ) : Type 0 where
  pub tokens : List Token
  pub reached : Begins bytes tokens (drop at bytes)
  pub nothing : NothingBegins (drop at bytes)

-- The token that begins at this byte has this property, behind the tokens that stand before it.
pub record AtToken (P : List Token → Token → Type 0) (tokens : List Token) (at : ℕ) : Type 0 where
  pub before : List Token
  pub token : Token
  pub after : List Token
  pub tokens_are : tokens ≡ before ++ token ∷ after
  pub place : at ≡ token.span.start
  pub breaks : P before token

-- C4: a literal or an identifier is past its limits.
abbrev pub HasPastLimits : Bytes → List Token → ℕ → Type 0
HasPastLimits bytes = AtToken (λ before t. IsPastLimits bytes t)

-- C5: a token raises the depth above its limit.
abbrev pub HasTooDeep : Bytes → List Token → ℕ → Type 0
HasTooDeep bytes = AtToken (IsTooDeep bytes)

-- C6: an `if` or a counted operator is one too many since the last `;` or the start.
abbrev pub HasTooMany : Bytes → List Token → ℕ → Type 0
HasTooMany bytes = AtToken (IsTooMany bytes)

-- The text breaks the rule of this number at this byte.
pub data Breaks (bytes : Bytes) : ℕ → ℕ → Type 0 where
  too_long : {at : ℕ} → IsTooLong bytes at → Breaks bytes MODEL_TOO_LONG at
  not_utf8 : {at : ℕ} → IsNotUtf8 bytes at → Breaks bytes NOT_UTF8 at
  no_token : {at : ℕ} → IsNoToken bytes at → Breaks bytes NO_TOKEN at
  past_limits : {at : ℕ} (ts : List Token) → Splits bytes ts → HasPastLimits bytes ts at → Breaks bytes PAST_LIMITS at
  too_deep : {at : ℕ} (ts : List Token) → Splits bytes ts → HasTooDeep bytes ts at → Breaks bytes NESTED_TOO_DEEPLY at
  too_many : {at : ℕ} (ts : List Token) → Splits bytes ts → HasTooMany bytes ts at → Breaks bytes EXPRESSION_TOO_LONG at

-- The text breaks this rule at this byte, no lower rule at any byte, and this rule at no earlier byte.
pub record IsFirstBroken (bytes : Bytes) (rule at : ℕ) : Type 0 where
  pub broken : Breaks bytes rule at
  pub lowest : (lower byte : ℕ) → lower < rule → Breaks bytes lower byte → ⊥
  pub earliest : (earlier : ℕ) → earlier < at → Breaks bytes rule earlier → ⊥

-- The text breaks no rule.
abbrev pub BreaksNone : Bytes → Type 0
BreaksNone bytes = (rule at : ℕ) → Breaks bytes rule at → ⊥
