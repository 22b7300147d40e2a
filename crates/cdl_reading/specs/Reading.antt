-- The steps that every rule of the parser is made of. A fault is the rest of the tokens from its place on.
use Rattle.std.specs.Prelude.{ℕ, ◌-◌, ℤ, Bool, if◌then◌else◌, List, [], ◌∷◌, ◌++◌, length, take, Option, Some, None, Result, Ok, Err, zero, suc}
use Rattle.cdl_source.specs.declared.place.Span.{Span}
use Rattle.cdl_decimal.specs.declared.numeral.DecimalError.{DecimalError}
use Rattle.cdl_decimal.specs.Split.{parse_of}
use Rattle.cdl_tree.specs.declared.terminal.Terminal.{Terminal}
use Rattle.cdl_tree.specs.declared.terminal.Terminal.TheVariants as the
use Rattle.cdl_tree.specs.declared.name.Ident.{Ident}
use Rattle.cdl_tree.specs.Words.{Word, same_terminal}
use Rattle.cdl_tree.specs.Terminals.{lexemes}
use Rattle.cdl_lex.specs.TokenList.{TokenList}

-- the tokens as the grammar sees them
abbrev pub word_of : TokenList → Word
word_of tokens = lexemes tokens.bytes tokens.items

abbrev pub Outcome : Type 0 → Type 0
Outcome A = Result (A × Word) Word

abbrev pub Parser : Type 0 → Type 0
Parser A = Word → Outcome A

abbrev pub and_then : {A B : Type 0} → Outcome A → (A → Parser B) → Outcome B
and_then (Ok p) f = f p.0 p.1
and_then (Err e) f = Err e

infixl 10 ◌>>=◌
abbrev pub ◌>>=◌ : {A B : Type 0} → Parser A → (A → Parser B) → Parser B
p >>= f = λ i. and_then (p i) f

infixl 10 ◌>>◌
abbrev pub ◌>>◌ : {A B : Type 0} → Parser A → Parser B → Parser B
p >> q = p >>= (λ _. q)

abbrev pub pure : {A : Type 0} → A → Parser A
pure a = λ i. Ok (a, i)

abbrev pub refuse : {A : Type 0} → Parser A
refuse = λ i. Err i

-- the next token's terminal, text and span, and the tokens behind it
abbrev pub terminal : Word → Terminal
terminal [] = the.Nothing
terminal (t ∷ ts) = t.terminal

abbrev pub text : Word → List ℕ
text [] = []
text (t ∷ ts) = t.text

abbrev pub span : Word → Span
span [] = record { start = 0; end = 0 }
span (t ∷ ts) = t.span

abbrev pub next : Word → Word
next [] = []
next (t ∷ ts) = ts

abbrev pub peek : Parser Terminal
peek = λ i. Ok (terminal i, i)

abbrev pub here : Parser Word
here = λ i. Ok (i, i)

-- the next token, whatever it is
abbrev pub skip : Parser (Unit {0})
skip = λ i. Ok (tt, next i)

unfoldable pub sees : Terminal → Word → Bool
sees k i = same_terminal (terminal i) k

-- whether a token of this terminal is next
abbrev pub ahead : Terminal → Parser Bool
ahead k = λ i. Ok (sees k i, i)

unfoldable pub after : Terminal → Word → Word
after k i = if sees k i then next i else i

-- the same, and takes it
abbrev pub eat : Terminal → Parser Bool
eat k = λ i. Ok (sees k i, after k i)

unfoldable pub expect : Terminal → Parser (Unit {0})
expect k = λ i. if sees k i then Ok (tt, next i) else Err i

-- the end of the tokens
unfoldable pub expect_end : Parser (Unit {0})
expect_end [] = Ok (tt, [])
expect_end (t ∷ ts) = Err (t ∷ ts)

-- the next token as an identifier
unfoldable pub ident : Parser Ident
ident = λ i. if sees the.Identifier i then Ok (record { text = text i; span = span i }, next i) else Err i

abbrev pub literal_by : {A : Type 0} → Option A → Parser A
literal_by (Some a) = λ i. Ok (a, next i)
literal_by None = refuse

-- the value of the next token, where it is of this terminal and its text has one
unfoldable pub literal : {A : Type 0} → Terminal → (List ℕ → Option A) → Parser A
literal terminal value = λ i. if sees terminal i then literal_by (value (text i)) i else Err i

abbrev pub value_of : Result ℤ DecimalError → Option ℤ
value_of (Ok q) = Some q
value_of (Err e) = None

-- the count of millionths of a number's text
abbrev pub real_of : List ℕ → Option ℤ
real_of text = value_of (parse_of text)

-- what was read since start, where i is left
abbrev pub since : Word → Word → Word
since start i = take (length start - length i) start

-- a value that is made of the word read since start
unfoldable pub made : {A : Type 0} → (Word → A) → Word → Parser A
made f start = λ i. Ok (f (since start i), i)

-- item { separator item }, behind the items that are found: at most so many turns
module _ {A : Type 0} (separator : Terminal) (item : Parser A) where
  unfoldable pub list_from : ℕ → List A → Parser (List A)
  list_from zero found = pure found
  list_from (suc turns) found = do
    more ← eat separator
    if more then (do x ← item; list_from turns (found ++ x ∷ [])) else pure found

  unfoldable pub list : ℕ → List A → Parser (List A)
  list turns found = do
    first ← item
    list_from turns (found ++ first ∷ [])
