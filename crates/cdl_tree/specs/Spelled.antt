-- The texts of terminals as a text has them.
use Rattle.std.specs.Prelude.{ℕ, Bool, true, false, List, [], ◌∷◌}
use Rattle.std.specs.List.{list_all}
use Rattle.std.specs.Str.{is_utf8}
use Rattle.cdl_source.specs.Identifiers.{is_digit, is_identifier}
use Rattle.cdl_tree.specs.declared.terminal.Terminal.{Terminal}
use Rattle.cdl_tree.specs.declared.terminal.Terminal.TheVariants as the
use Rattle.cdl_tree.specs.Words.{Lexeme, Word}

abbrev pub begins_with_digit : List ℕ → Bool
begins_with_digit [] = false
begins_with_digit (c ∷ cs) = is_digit c

-- An identifier is one, a number begins with a digit, and a string is UTF-8.
abbrev pub is_spelled_as : Terminal → List ℕ → Bool
is_spelled_as the.Identifier text = is_identifier text
is_spelled_as the.Integer text = begins_with_digit text
is_spelled_as the.Real text = begins_with_digit text
is_spelled_as the.Str text = is_utf8 text
is_spelled_as _ text = true

abbrev pub is_spelled : Lexeme → Bool
is_spelled t = is_spelled_as t.terminal t.text

abbrev pub are_spelled : Word → Bool
are_spelled w = list_all is_spelled w
