-- What `lex` answers.
use Rattle.std.specs.Prelude.{◌≡◌, ℕ}
use Rattle.cdl_lex.specs.declared.lexer.LexFault.{LexFault}
use Rattle.cdl_lex.specs.declared.lexer.LexFault.TheVariants.{Rule, OutOfMemory}
use Rattle.cdl_lex.specs.Spellings.{Bytes}
use Rattle.cdl_lex.specs.Rules.{IsFirstBroken}

-- The rule that is named is the first that the text of this file breaks.
abbrev pub IsRefusal : ℕ → Bytes → LexFault → Type 0
IsRefusal file bytes (Rule r p) = (p.file ≡ file) × IsFirstBroken bytes r p.byte
IsRefusal file bytes OutOfMemory = Unit {0}
