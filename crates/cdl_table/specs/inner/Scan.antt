-- The rows of a table, or the first rule that it breaks, computed one record at a time.
use Rattle.std.specs.Prelude.{◌≡◌, ◌+◌, ◌==◌, ℕ, ℤ, List, [], ◌∷◌, ◌++◌, length, Option, Some, None, Result, Ok, Err, if◌then◌else◌}
use Rattle.std.specs.Int.RustNames.{int_lt}
use Rattle.std.specs.Str.{bytes_eq}
use Rattle.cdl_table.specs.declared.column.Column.{Column}
use Rattle.cdl_table.specs.declared.table.TableFault.{TableFault}
use Rattle.cdl_table.specs.declared.table.TableFault.TheVariants.{Rule, OutOfMemory}
use Rattle.cdl_source.specs.declared.rules.TheConstants.{NOT_A_TIME, NOT_A_VALUE, TIME_DOES_NOT_RISE, TOO_MANY_TICKS, WRONG_FIELD_COUNT, WRONG_HEADER}
use Rattle.cdl_table.specs.Cells.{time_of, word_of}
use Rattle.cdl_table.specs.IsTable.{before_all, header_of}
use Rattle.cdl_table.specs.Broken.{first_too_many}
use Rattle.cdl_table.specs.TableRow.{TableRow, row_with}

abbrev pub word_or : {A : Type 0} → (ℤ → Result A ℕ) → ℕ → Option ℤ → Result A ℕ
word_or more column None = Err column
word_or more column (Some w) = more w

-- the words of the fields, of which the first stands in this column, behind the words that are done; or the first column without a value
abbrev pub words_from : ℕ → List ℤ → List Column → List (List ℕ) → Result (List ℤ) ℕ
words_from column done [] fields = Ok done
words_from column done (c ∷ cs) [] = Err column
words_from column done (c ∷ cs) (f ∷ fs) = word_or (λ w. words_from (column + 1) (done ++ w ∷ []) cs fs) column (word_of c.value_type f)

abbrev pub with_time : ℤ → Result (List ℤ) ℕ → Result TableRow (ℕ × ℕ)
with_time t (Ok words) = Ok (row_with t words)
with_time t (Err column) = Err (NOT_A_VALUE, column)

abbrev pub at_time : List Column → ℤ → List (List ℕ) → Option ℤ → Result TableRow (ℕ × ℕ)
at_time columns last cells None = Err (NOT_A_TIME, 1)
at_time columns last cells (Some t) = if int_lt last t then with_time t (words_from 2 [] columns cells) else Err (TIME_DOES_NOT_RISE, 1)

abbrev pub cells_of : List Column → ℤ → List (List ℕ) → Result TableRow (ℕ × ℕ)
cells_of columns last [] = Err (WRONG_FIELD_COUNT, 1)
cells_of columns last (f ∷ fs) = at_time columns last fs (time_of f)

-- the row of a record behind a row of time `last`; or the rule that it breaks first and the column
abbrev pub row_of : List Column → ℤ → List (List ℕ) → Result TableRow (ℕ × ℕ)
row_of columns last fields = if length fields == length columns + 1 then cells_of columns last fields else Err (WRONG_FIELD_COUNT, 1)

abbrev pub Broken : Type 0
Broken = ℕ × ℕ × ℕ

abbrev pub row_or : {A : Type 0} → (TableRow → Result A Broken) → ℕ → Result TableRow (ℕ × ℕ) → Result A Broken
row_or more number (Ok t) = more t
row_or more number (Err e) = Err (e.0, number, e.1)

-- the rows of the records, of which the first has this number and stands behind a row of time `last`, behind the rows that are done
abbrev pub rows_from : List Column → ℕ → ℤ → List TableRow → List (List (List ℕ)) → Result (List TableRow) Broken
rows_from columns number last done [] = Ok done
rows_from columns number last done (r ∷ rs) =
    if number == first_too_many then Err (TOO_MANY_TICKS, number, 1)
    else row_or (λ t. rows_from columns (number + 1) t.time (done ++ t ∷ []) rs) number (row_of columns last r)

-- the first column, from this one on, at which the fields are not those wanted
abbrev pub header_fault : ℕ → List (List ℕ) → List (List ℕ) → Option ℕ
header_fault column [] [] = None
header_fault column [] (f ∷ fs) = Some column
header_fault column (n ∷ ns) [] = Some column
header_fault column (n ∷ ns) (f ∷ fs) = if bytes_eq f n then header_fault (column + 1) ns fs else Some column

abbrev pub header_or : Result (List TableRow) Broken → Option ℕ → Result (List TableRow) Broken
header_or more None = more
header_or more (Some column) = Err (WRONG_HEADER, 1, column)

-- the rows of a table of these columns; or the first rule that it breaks, its row and its column
abbrev pub table_of : List Column → List (List (List ℕ)) → Result (List TableRow) Broken
table_of columns [] = Err (WRONG_HEADER, 1, 1)
table_of columns (header ∷ rest) = header_or (rows_from columns 2 before_all [] rest) (header_fault 1 (header_of columns) header)

-- a fault tells what was broken, unless memory ran out
abbrev pub Names : {A : Type 0} → Result A Broken → TableFault → Type 0
Names r (Rule rule row column) = r ≡ Err (rule, row, column)
Names r OutOfMemory = Unit {0}

-- the same, of what the record of a number breaks
abbrev pub NamesIn : {A : Type 0} → ℕ → Result A (ℕ × ℕ) → TableFault → Type 0
NamesIn number r (Rule rule row column) = (row ≡ number) × (r ≡ Err (rule, column))
NamesIn number r OutOfMemory = Unit {0}
