-- What a string means, computed a byte at a time.
use Rattle.std.specs.Prelude.{ℕ, ◌++◌, Bool, true, false, ◌==◌, if◌then◌else◌, List, [], ◌∷◌, Option, Some, None}
use Rattle.cdl_tree.specs.Literals.{escaped}

-- the byte in front of the bytes, where both are there
abbrev pub put : Option ℕ → Option (List ℕ) → Option (List ℕ)
put (Some c) (Some cs) = Some (c ∷ cs)
put (Some c) None = None
put None rest = None

-- the closing quote ends the text
abbrev pub closed : List ℕ → Option (List ℕ)
closed [] = Some []
closed (c ∷ cs) = None

-- What the bytes up to the closing quote mean. The flag says whether a backslash stands before them.
abbrev pub unescaped : Bool → List ℕ → Option (List ℕ)
unescaped escape [] = None
unescaped true (c ∷ cs) = put (escaped c) (unescaped false cs)
unescaped false (c ∷ cs) = if c == 34 then closed cs else (if c == 92 then unescaped true cs else put (Some c) (unescaped false cs))

abbrev pub opened : List ℕ → Option (List ℕ)
opened [] = None
opened (c ∷ cs) = if c == 34 then unescaped false cs else None

-- the bytes of a string without its quotes, and one byte for each escape
unfoldable pub string_of : List ℕ → Option (List ℕ)
string_of text = opened text

-- the bytes, and then what is behind them
abbrev pub behind : List ℕ → Option (List ℕ) → Option (List ℕ)
behind bytes None = None
behind bytes (Some cs) = Some (bytes ++ cs)
