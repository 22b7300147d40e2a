-- Words that are values of their columns' types.
use Rattle.std.specs.Prelude.{◌<◌, ℕ, ℤ, List, [], ◌∷◌, length}
use Rattle.cdl_values.specs.History.{IsTime, IsValue}
use Rattle.cdl_table.specs.declared.column.Column.{Column}
use Rattle.cdl_table.specs.TableRow.{TableRow, row_at}

-- one word for each column, each a value of its type
abbrev pub AreValues : List Column → List ℤ → Type 0
AreValues [] [] = Unit {0}
AreValues [] (w ∷ ws) = ⊥
AreValues (c ∷ cs) [] = ⊥
AreValues (c ∷ cs) (w ∷ ws) = IsValue c.value_type w × AreValues cs ws

-- each row has a time from 0 to 10^13, and a value for each column
abbrev pub HaveValues : List Column → List TableRow → Type 0
HaveValues columns rows = (i : ℕ) → i < length rows → IsTime (row_at rows i).time × AreValues columns (row_at rows i).words
