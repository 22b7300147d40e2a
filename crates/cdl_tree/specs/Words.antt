-- Words of the grammar: lists of lexemes.
use Rattle.std.specs.Prelude.{ℕ, Bool, List, [], ◌∷◌}
use denote.Enum.Bare.{sameb}
use Rattle.cdl_source.specs.declared.place.Span.{Span}
use Rattle.cdl_tree.specs.declared.terminal.Terminal.{Terminal}
use Rattle.cdl_tree.specs.contracts.terminal.Terminal.{the_type}

-- a token as the grammar sees it: what it is, its bytes, and where they stand
pub record Lexeme : Type 0 where
  pub terminal : Terminal
  pub text : List ℕ
  pub span : Span

abbrev pub Word : Type 0
Word = List Lexeme

-- where the last token ends, or last where there is none
abbrev pub ending : ℕ → Word → ℕ
ending last [] = last
ending last (t ∷ ts) = ending t.span.end ts

-- from the first token's first byte to the last token's last
abbrev pub span_of : Word → Span
span_of [] = record { start = 0; end = 0 }
span_of (t ∷ ts) = record { start = t.span.start; end = ending t.span.end ts }

unfoldable pub same_terminal : Terminal → Terminal → Bool
same_terminal = sameb the_type
