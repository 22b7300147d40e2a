-- The sets of bytes that the code asks for.
use Rattle.std.specs.Prelude.{ℕ, Bool}
use Rattle.cdl_source.specs.Identifiers.{is_initial, is_word_byte, is_digit}
use Rattle.cdl_lex.specs.declared.byte_set.ByteSet.{ByteSet}
use Rattle.cdl_lex.specs.declared.byte_set.ByteSet.TheVariants.{Blank, Initial, Word, Digit, Inner}
use Rattle.cdl_lex.specs.Spellings.{is_blank}
use Rattle.cdl_lex.specs.Splits.{is_inner}

abbrev pub is_in : ByteSet → ℕ → Bool
is_in Blank = is_blank
is_in Initial = is_initial
is_in Word = is_word_byte
is_in Digit = is_digit
is_in Inner = is_inner
