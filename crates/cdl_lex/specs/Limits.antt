-- The limits of literals, of nesting, and of the operators of an expression.
use Rattle.std.specs.Prelude.{◌≡◌, ◌⊎◌, ◌<◌, ℕ, ◌+◌, ◌-◌, ◌==◌, Bool, false, not, ◌&&◌, if◌then◌else◌, List, [], ◌∷◌, reverse, length, Err}
use Rattle.cdl_source.specs.declared.limits.TheConstants.{DEEPEST_NESTING, LARGEST_INTEGER, LONGEST_IDENTIFIER, MOST_IFS, MOST_OPERATORS}
use Rattle.cdl_source.specs.declared.place.TokenSort.{TokenSort}
use Rattle.cdl_source.specs.declared.place.TokenSort.TheVariants as sort
use Rattle.cdl_source.specs.declared.place.Token.{Token}
use Rattle.cdl_decimal.specs.Spells.{number, Parses}
use Rattle.cdl_decimal.specs.declared.numeral.DecimalError.TheVariants.{TooLong, OutOfRange}
use Rattle.cdl_lex.specs.declared.role.Role.{Role}
use Rattle.cdl_lex.specs.declared.role.Role.TheVariants as r
use Rattle.cdl_lex.specs.Spellings.{Bytes}
use Rattle.cdl_lex.specs.TokenList.{text_of}
use Rattle.cdl_lex.specs.Roles.{role_of, is_end, is_semicolon, is_if, is_operator, is_lead}

-- ---- literals and identifiers

-- The text of a Real has too many digits, or its value is out of range.
abbrev pub IsRefused : Bytes → Type 0
IsRefused text = Parses text (Err TooLong) ⊎ Parses text (Err OutOfRange)

-- The text of a token of this sort is past the limits of its sort.
abbrev pub IsPast : TokenSort → Bytes → Type 0
IsPast sort.Identifier text = LONGEST_IDENTIFIER < length text
IsPast sort.Integer text = LARGEST_INTEGER < number text
IsPast sort.Real text = IsRefused text
IsPast sort.Str text = ⊥
IsPast sort.Keyword text = ⊥
IsPast sort.Symbol text = ⊥

abbrev pub IsPastLimits : Bytes → Token → Type 0
IsPastLimits bytes t = IsPast t.sort (text_of bytes t)

-- ---- nesting

-- Here and below the tokens before a place are listed from the nearest one back.

-- The last of the tokens has a role of this kind.
abbrev pub follows : (Role → Bool) → Bytes → List Token → Bool
follows kind bytes [] = false
follows kind bytes (t ∷ earlier) = kind (role_of bytes t)

-- a number of open brackets behind one token more: it does not go below 0
abbrev pub with_bracket : Role → ℕ → ℕ
with_bracket r.Opening n = n + 1
with_bracket r.Closing n = n - 1
with_bracket _ n = n

-- the open brackets
abbrev pub brackets : Bytes → List Token → ℕ
brackets bytes [] = 0
brackets bytes (t ∷ earlier) = with_bracket (role_of bytes t) (brackets bytes earlier)

-- a number of open blocks, packages and loops behind one token more outside brackets: a `for` behind `end` opens none, and the number
-- does not go below 0
abbrev pub with_class : Role → Bool → ℕ → ℕ
with_class r.Class follows_end n = n + 1
with_class r.For follows_end n = if follows_end then n else n + 1
with_class r.End follows_end n = n - 1
with_class _ follows_end n = n

-- the open blocks, packages and loops; what stands in brackets doesn't count
abbrev pub classes : Bytes → List Token → ℕ
classes bytes [] = 0
classes bytes (t ∷ earlier) =
    if brackets bytes earlier == 0 then with_class (role_of bytes t) (follows is_end bytes earlier) (classes bytes earlier) else classes bytes earlier

abbrev pub depth : Bytes → List Token → ℕ
depth bytes earlier = brackets bytes earlier + classes bytes earlier

-- ---- operators

-- a count behind one token more, which may be a semicolon, or one that counts
abbrev pub with_token : Bool → Bool → ℕ → ℕ
with_token semicolon counts n = if semicolon then 0 else (if counts then n + 1 else n)

-- how many `if` there are since the last `;` or the start
abbrev pub ifs : Bytes → List Token → ℕ
ifs bytes [] = 0
ifs bytes (t ∷ earlier) = with_token (is_semicolon (role_of bytes t)) (is_if (role_of bytes t)) (ifs bytes earlier)

-- The token is an operator, and doesn't stand directly behind an opening bracket, a comma, = or :.
abbrev pub is_counted : Bytes → Token → List Token → Bool
is_counted bytes t earlier = is_operator (role_of bytes t) && not (follows is_lead bytes earlier)

-- how many operators count since the last `;` or the start
abbrev pub operators : Bytes → List Token → ℕ
operators bytes [] = 0
operators bytes (t ∷ earlier) = with_token (is_semicolon (role_of bytes t)) (is_counted bytes t earlier) (operators bytes earlier)

-- ---- a token that breaks a limit, behind other tokens

-- The token, behind these, takes the number from its limit to one above it.
abbrev pub Passes : ℕ → (List Token → ℕ) → List Token → Token → Type 0
Passes limit number before t = (number (reverse before) ≡ limit) × (number (t ∷ reverse before) ≡ limit + 1)

abbrev pub IsTooDeep : Bytes → List Token → Token → Type 0
IsTooDeep bytes = Passes DEEPEST_NESTING (depth bytes)

abbrev pub IsTooMany : Bytes → List Token → Token → Type 0
IsTooMany bytes before t = Passes MOST_IFS (ifs bytes) before t ⊎ Passes MOST_OPERATORS (operators bytes) before t
