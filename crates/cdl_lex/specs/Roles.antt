-- The part that a token plays in the nesting and in the counts of operators.
use Rattle.std.specs.Prelude.{Bool, true, false, if◌then◌else◌, List, [], ◌∷◌, codes}
use Rattle.std.specs.Str.{bytes_eq}
use Rattle.cdl_source.specs.declared.place.TokenSort.{TokenSort}
use Rattle.cdl_source.specs.declared.place.TokenSort.TheVariants as sort
use Rattle.cdl_source.specs.declared.place.Token.{Token}
use Rattle.cdl_lex.specs.declared.role.Role.{Role}
use Rattle.cdl_lex.specs.declared.role.Role.TheVariants as r
use Rattle.cdl_lex.specs.TokenList.{text_of}
use Rattle.cdl_lex.specs.Spellings.{Bytes}

abbrev pub roles : List (Bytes × Role)
roles =
    (codes "(", r.Opening) ∷ (codes "[", r.Opening) ∷ (codes "{", r.Opening)
    ∷ (codes ")", r.Closing) ∷ (codes "]", r.Closing) ∷ (codes "}", r.Closing)
    ∷ (codes "block", r.Class) ∷ (codes "package", r.Class) ∷ (codes "for", r.For) ∷ (codes "end", r.End)
    ∷ (codes ",", r.Lead) ∷ (codes "=", r.Lead) ∷ (codes ":", r.Lead) ∷ (codes ";", r.Semicolon)
    ∷ (codes "if", r.If) ∷ (codes "elseif", r.Operator) ∷ (codes "and", r.Operator) ∷ (codes "or", r.Operator)
    ∷ (codes "+", r.Operator) ∷ (codes "-", r.Operator) ∷ (codes "*", r.Operator) ∷ (codes "/", r.Operator) ∷ []

-- what the table has for this text
abbrev pub lookup : List (Bytes × Role) → Bytes → Role
lookup [] text = r.Other
lookup (row ∷ rows) text = if bytes_eq row.0 text then row.1 else lookup rows text

unfoldable pub word_role : Bytes → Role
word_role = lookup roles

-- the role of a token of this sort and text
abbrev pub role_by : TokenSort → Bytes → Role
role_by sort.Identifier text = r.Other
role_by sort.Integer text = r.Other
role_by sort.Real text = r.Other
role_by sort.Str text = r.Other
role_by sort.Keyword text = word_role text
role_by sort.Symbol text = word_role text

abbrev pub role_of : Bytes → Token → Role
role_of bytes t = role_by t.sort (text_of bytes t)

-- the roles that the limits ask for
abbrev pub is_end : Role → Bool
is_end r.End = true
is_end _ = false

abbrev pub is_semicolon : Role → Bool
is_semicolon r.Semicolon = true
is_semicolon _ = false

abbrev pub is_if : Role → Bool
is_if r.If = true
is_if _ = false

abbrev pub is_operator : Role → Bool
is_operator r.Operator = true
is_operator _ = false

-- behind such a token no operator counts
abbrev pub is_lead : Role → Bool
is_lead r.Opening = true
is_lead r.Lead = true
is_lead _ = false
