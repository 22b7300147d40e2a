-- Keywords and identifiers of the language.
use Rattle.std.specs.Prelude.{ℕ, Bool, false, ◌&&◌, ◌||◌, ◌==◌, not, nat_le, List, [], ◌∷◌, length, codes}
use Rattle.std.specs.List.{list_all, list_any}
use Rattle.std.specs.Str.{bytes_eq}
use Rattle.cdl_source.specs.declared.limits.TheConstants.{LONGEST_IDENTIFIER}

-- 0 to 9
abbrev pub is_digit : ℕ → Bool
is_digit c = nat_le 48 c && nat_le c 57

-- what a word begins with: A to Z, a to z, _
abbrev pub is_initial : ℕ → Bool
is_initial c = (nat_le 65 c && nat_le c 90) || (nat_le 97 c && nat_le c 122) || c == 95

-- what a word goes on with
abbrev pub is_word_byte : ℕ → Bool
is_word_byte c = is_initial c || is_digit c

-- a letter or _, and then letters, digits and _: a keyword, or an identifier of any length
abbrev pub is_word : List ℕ → Bool
is_word [] = false
is_word (c ∷ cs) = is_initial c && list_all is_word_byte cs

unfoldable pub keywords : List (List ℕ)
keywords =
    codes "algorithm" ∷ codes "and" ∷ codes "annotation" ∷ codes "block" ∷ codes "break" ∷ codes "class" ∷ codes "connect"
    ∷ codes "connector" ∷ codes "constant" ∷ codes "constrainedby" ∷ codes "der" ∷ codes "discrete" ∷ codes "each" ∷ codes "else"
    ∷ codes "elseif" ∷ codes "elsewhen" ∷ codes "encapsulated" ∷ codes "end" ∷ codes "enumeration" ∷ codes "equation"
    ∷ codes "expandable" ∷ codes "extends" ∷ codes "external" ∷ codes "false" ∷ codes "final" ∷ codes "flow" ∷ codes "for"
    ∷ codes "function" ∷ codes "if" ∷ codes "import" ∷ codes "impure" ∷ codes "in" ∷ codes "initial" ∷ codes "inner" ∷ codes "input"
    ∷ codes "loop" ∷ codes "model" ∷ codes "not" ∷ codes "operator" ∷ codes "or" ∷ codes "outer" ∷ codes "output" ∷ codes "package"
    ∷ codes "parameter" ∷ codes "partial" ∷ codes "protected" ∷ codes "public" ∷ codes "pure" ∷ codes "record" ∷ codes "redeclare"
    ∷ codes "replaceable" ∷ codes "return" ∷ codes "stream" ∷ codes "then" ∷ codes "true" ∷ codes "type" ∷ codes "when"
    ∷ codes "while" ∷ codes "within" ∷ []

-- one of the keywords
unfoldable pub is_keyword : List ℕ → Bool
is_keyword word = list_any (λ k. bytes_eq k word) keywords

-- a word that is no keyword, within the limit
abbrev pub is_identifier : List ℕ → Bool
is_identifier word = nat_le (length word) LONGEST_IDENTIFIER && is_word word && not (is_keyword word)
