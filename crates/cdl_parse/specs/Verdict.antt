-- What parsing a whole list of tokens answers.
use Rattle.std.specs.Prelude.{◌≡◌, ◌⊎◌, ℕ, zero, suc, List, [], ◌∷◌, ◌++◌, length, Result, Ok, Err}
use Rattle.cdl_source.specs.declared.place.Place.{Place}
use Rattle.cdl_source.specs.declared.rules.TheConstants.{SYNTAX, WRONG_END_NAME}
use Rattle.cdl_source.specs.declared.place.Token.{Token}
use Rattle.cdl_lex.specs.TokenList.{TokenList}
use Rattle.cdl_tree.specs.declared.class.FileTree.{FileTree}
use Rattle.cdl_tree.specs.declared.class.Closing.{Closing}
use Rattle.cdl_tree.specs.Words.{Word}
use Rattle.cdl_tree.specs.Grammar.{FileOf, IsClosed, Sentence, Longest}
use Rattle.cdl_reading.specs.Reading.{word_of}
use Rattle.cdl_parse.specs.declared.ParseFault.{ParseFault}
use Rattle.cdl_parse.specs.declared.ParseFault.TheVariants.{Rule, OutOfMemory}

-- each identifier behind an `end` is that of its class
abbrev pub AllClosed : List Closing → Type 0
AllClosed [] = Unit {0}
AllClosed (c ∷ cs) = IsClosed c × AllClosed cs

-- The word is a sentence with this tree, and each identifier behind an `end` is that of its class.
abbrev pub Closes : Word → FileTree → Type 0
Closes w tree = (ends : List Closing) × FileOf w tree ends × AllClosed ends

-- The tree is given, unless memory fails.
abbrev pub IsTree : FileTree → Result FileTree ParseFault → Type 0
IsTree tree (Ok given) = given ≡ tree
IsTree tree (Err fault) = fault ≡ OutOfMemory

-- where the token of this number begins, or the end of the file where all tokens are before it
abbrev pub begin_of : List ℕ → List Token → ℕ → ℕ
begin_of bytes [] n = length bytes
begin_of bytes (t ∷ ts) zero = t.span.start
begin_of bytes (t ∷ ts) (suc n) = begin_of bytes ts n

-- C7 at the first token behind the longest front of the tokens that begins a sentence, and the tokens are none.
pub record Stuck (tokens : TokenList) (place : Place) : Type 0 where
  pub no_sentence : (tree : FileTree) → Sentence (word_of tokens) tree → ⊥
  pub file : place.file ≡ tokens.file
  pub at : (n : ℕ) × Longest (word_of tokens) n × (place.byte ≡ begin_of tokens.bytes tokens.items n)

-- C8 at the first identifier behind an `end` that is not that of its class, in a sentence.
pub record Misnamed (tokens : TokenList) (place : Place) : Type 0 where
  pub sentence : (tree : FileTree) × (ends : List Closing) × FileOf (word_of tokens) tree ends
      × (before : List Closing) × (wrong : Closing) × (later : List Closing)
      × (ends ≡ before ++ wrong ∷ later) × AllClosed before × (IsClosed wrong → ⊥) × (place.byte ≡ wrong.end.span.start)
  pub file : place.file ≡ tokens.file

-- Why tokens are refused: they are no sentence, or an identifier behind an `end` is wrong.
abbrev pub IsRefused : TokenList → ParseFault → Type 0
IsRefused tokens (Rule rule place) = ((rule ≡ SYNTAX) × Stuck tokens place) ⊎ ((rule ≡ WRONG_END_NAME) × Misnamed tokens place)
IsRefused tokens OutOfMemory = Unit {0}
