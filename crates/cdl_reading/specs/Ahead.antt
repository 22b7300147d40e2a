-- What a cursor shows: the tokens from its place on.
use Rattle.std.specs.Prelude.{◌≤◌, length, drop}
use Rattle.cdl_tree.specs.Words.{Word}
use Rattle.cdl_tree.specs.Terminals.{lexemes}
use Rattle.cdl_reading.specs.declared.cursor.Cursor.TheInside.{Inside}

abbrev pub rest_of : Inside → Word
rest_of c = drop c.at (lexemes c.tokens.now.bytes c.tokens.now.items)

abbrev pub IsAmong : Inside → Type 0
IsAmong c = c.at ≤ length c.tokens.now.items
