-- The rows of a table, and how they lie in two lists.
use Rattle.std.specs.Prelude.{ℕ, ℤ, pos, List, [], ◌∷◌, take, drop, slice_index_or}

-- a tick: its time in milliseconds, and a word for each column
pub record TableRow : Type 0 where
  pub time : ℤ
  pub words : List ℤ

abbrev pub row_with : ℤ → List ℤ → TableRow
row_with time words = record { time = time; words = words }

-- rows of so many words: their times, and their words row by row
abbrev pub rows_of : ℕ → List ℤ → List ℤ → List TableRow
rows_of width [] words = []
rows_of width (time ∷ times) words = row_with time (take width words) ∷ rows_of width times (drop width words)

-- the row of that number, from 0; past the end one that no clause asks for
abbrev pub row_at : List TableRow → ℕ → TableRow
row_at rows i = slice_index_or rows i (row_with (pos 0) [])
