-- Tokens as lexemes of the grammar, each with the terminal that it is.
use Rattle.std.specs.Prelude.{ℕ, if◌then◌else◌, List, [], ◌∷◌, map, codes, slice_range}
use Rattle.std.specs.Str.{bytes_eq}
use Rattle.cdl_source.specs.declared.place.TokenSort.{TokenSort}
use Rattle.cdl_source.specs.declared.place.TokenSort.TheVariants as sort
use Rattle.cdl_source.specs.declared.place.Token.{Token}
use Rattle.cdl_tree.specs.declared.terminal.Terminal.{Terminal}
use Rattle.cdl_tree.specs.declared.terminal.Terminal.TheVariants as the
use Rattle.cdl_tree.specs.Words.{Lexeme, Word}

-- the keywords that the grammar names
abbrev pub keywords : List (List ℕ × Terminal)
keywords =
    (codes "within", the.Within) ∷ (codes "block", the.Block) ∷ (codes "package", the.Package) ∷ (codes "type", the.Type)
    ∷ (codes "enumeration", the.Enumeration) ∷ (codes "public", the.Public) ∷ (codes "protected", the.Protected)
    ∷ (codes "equation", the.Equation) ∷ (codes "end", the.End) ∷ (codes "annotation", the.Annotation) ∷ (codes "final", the.Final)
    ∷ (codes "parameter", the.Parameter) ∷ (codes "constant", the.Constant) ∷ (codes "each", the.Each) ∷ (codes "connect", the.Connect) ∷ (codes "for", the.For) ∷ (codes "in", the.In) ∷ (codes "loop", the.Loop)
    ∷ (codes "if", the.If) ∷ (codes "then", the.Then) ∷ (codes "elseif", the.ElseIf) ∷ (codes "else", the.Else) ∷ (codes "or", the.Or)
    ∷ (codes "and", the.And) ∷ (codes "not", the.Not) ∷ (codes "true", the.True) ∷ (codes "false", the.False) ∷ []

-- the symbols that the grammar names
abbrev pub symbols : List (List ℕ × Terminal)
symbols =
    (codes "(", the.Open) ∷ (codes ")", the.Close) ∷ (codes "[", the.OpenBracket) ∷ (codes "]", the.CloseBracket) ∷ (codes "{", the.OpenBrace)
    ∷ (codes "}", the.CloseBrace) ∷ (codes ";", the.Semicolon) ∷ (codes ",", the.Comma) ∷ (codes ".", the.Period) ∷ (codes ":", the.Colon)
    ∷ (codes "=", the.Equals) ∷ (codes "+", the.Plus) ∷ (codes "-", the.Minus) ∷ (codes "*", the.Star) ∷ (codes "/", the.Slash)
    ∷ (codes "<", the.Less) ∷ (codes "<=", the.LessEqual) ∷ (codes ">", the.Greater) ∷ (codes ">=", the.GreaterEqual)
    ∷ (codes "==", the.EqualEqual) ∷ (codes "<>", the.NotEqual) ∷ []

-- what the table has for this text
abbrev pub lookup : List (List ℕ × Terminal) → List ℕ → Terminal
lookup [] text = the.Other
lookup (row ∷ rows) text = if bytes_eq row.0 text then row.1 else lookup rows text

unfoldable pub keyword : List ℕ → Terminal
keyword = lookup keywords

unfoldable pub symbol : List ℕ → Terminal
symbol = lookup symbols

-- the terminal that a token is, by its sort and its text
abbrev pub terminal_of : TokenSort → List ℕ → Terminal
terminal_of sort.Identifier text = the.Identifier
terminal_of sort.Integer text = the.Integer
terminal_of sort.Real text = the.Real
terminal_of sort.Str text = the.Str
terminal_of sort.Keyword text = keyword text
terminal_of sort.Symbol text = symbol text

-- a token's text: its slice of the bytes
abbrev pub text_of : List ℕ → Token → List ℕ
text_of bytes t = slice_range bytes t.span.start t.span.end

abbrev pub lexeme : List ℕ → Token → Lexeme
lexeme bytes t = let text = text_of bytes t in record { terminal = terminal_of t.sort text; text = text; span = t.span }

-- the word that the grammar speaks of
abbrev pub lexemes : List ℕ → List Token → Word
lexemes bytes tokens = map (lexeme bytes) tokens
