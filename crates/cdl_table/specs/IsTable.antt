-- What a table of these columns is.
use Rattle.std.specs.Prelude.{◌≡◌, ◌≤◌, ◌<ℤ◌, ℕ, ℤ, negsuc, List, [], ◌∷◌, codes, length, map, Some}
use Rattle.cdl_source.specs.declared.limits.TheConstants.{MOST_TICKS}
use Rattle.cdl_table.specs.declared.column.Column.{Column}
use Rattle.cdl_table.specs.Cells.{time_of, word_of}
use Rattle.cdl_table.specs.TableRow.{TableRow}

abbrev pub names_of : List Column → List (List ℕ)
names_of columns = map (λ c. c.name) columns

-- the first record: `time` and the names of the columns
abbrev pub header_of : List Column → List (List ℕ)
header_of columns = codes "time" ∷ names_of columns

-- the cells are values of the columns' types, one for each column, and these are their words
abbrev pub AreWords : List Column → List (List ℕ) → List ℤ → Type 0
AreWords [] [] [] = Unit {0}
AreWords (c ∷ cs) (f ∷ fs) (w ∷ ws) = (word_of c.value_type f ≡ Some w) × AreWords cs fs ws
AreWords _ _ _ = ⊥

-- the fields are a row's time and then its values
pub record IsRow (columns : List Column) (fields : List (List ℕ)) (row : TableRow) : Type 0 where
  pub first : List ℕ
  pub cells : List (List ℕ)
  pub fields_are : fields ≡ first ∷ cells
  pub time : time_of first ≡ Some row.time
  pub words : AreWords columns cells row.words

-- the records are these rows, one by one, and each time is above the one before, the first above `last`
abbrev pub AreRows : List Column → ℤ → List (List (List ℕ)) → List TableRow → Type 0
AreRows columns last [] [] = Unit {0}
AreRows columns last [] (row ∷ rows) = ⊥
AreRows columns last (fields ∷ rest) [] = ⊥
AreRows columns last (fields ∷ rest) (row ∷ rows) = IsRow columns fields row × (last <ℤ row.time) × AreRows columns row.time rest rows

-- below every time
abbrev pub before_all : ℤ
before_all = negsuc 0

-- The records are a header and these rows.
pub record IsTable (columns : List Column) (records : List (List (List ℕ))) (rows : List TableRow) : Type 0 where
  pub rest : List (List (List ℕ))
  pub records_are : records ≡ header_of columns ∷ rest
  pub rows_are : AreRows columns before_all rest rows
  pub few : length rows ≤ MOST_TICKS
