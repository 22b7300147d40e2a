-- The first rule that records break, its row and its column.
use Rattle.std.specs.Prelude.{◌≡◌, ◌≢◌, ◌<◌, ◌<ℤ◌, ◌≤ℤ◌, ◌+◌, ◌⊎◌, ◌++◌, ℕ, zero, suc, ℤ, List, [], ◌∷◌, length, Option, Some, None}
use Rattle.csv.specs.Records.{field_at}
use Rattle.cdl_table.specs.declared.column.Column.{Column}
use Rattle.cdl_table.specs.declared.table.TableFault.{TableFault}
use Rattle.cdl_table.specs.declared.table.TableFault.TheVariants.{Rule, OutOfMemory}
use Rattle.cdl_table.specs.Cells.{time_of, word_of}
use Rattle.cdl_source.specs.declared.limits.TheConstants.{MOST_TICKS}
use Rattle.cdl_source.specs.declared.rules.TheConstants.{NOT_A_TIME, NOT_A_VALUE, TIME_DOES_NOT_RISE, TOO_MANY_TICKS, WRONG_FIELD_COUNT, WRONG_HEADER}
use Rattle.cdl_table.specs.IsTable.{IsTable, before_all, header_of}
use Rattle.cdl_table.specs.TableRow.{TableRow}

-- the word of the cell of that number, from 0, as a value of its column's type
abbrev pub word_at : List Column → List (List ℕ) → ℕ → Option ℤ
word_at [] cells i = None
word_at (c ∷ cs) [] i = None
word_at (c ∷ cs) (f ∷ fs) zero = word_of c.value_type f
word_at (c ∷ cs) (f ∷ fs) (suc i) = word_at cs fs i

-- the cell of that number is no value of its column's type, and is the first
pub record IsFirstBad (columns : List Column) (cells : List (List ℕ)) (i : ℕ) : Type 0 where
  pub within : i < length columns
  pub bad : word_at columns cells i ≡ None
  pub good : (k : ℕ) → k < i → (w : ℤ) × (word_at columns cells k ≡ Some w)

-- what a record may be wrong by: it is one record too many, it has another number of fields than the header, its first field is
-- no time, its time is not above the one before, or the cell of a number, from 0, is no value of its column's type
pub data Flaw : Type 0 where
  too_many : Flaw
  wrong_count : Flaw
  no_time : Flaw
  no_rise : Flaw
  no_value : ℕ → Flaw

abbrev pub rule_of : Flaw → ℕ
rule_of too_many = TOO_MANY_TICKS
rule_of wrong_count = WRONG_FIELD_COUNT
rule_of no_time = NOT_A_TIME
rule_of no_rise = TIME_DOES_NOT_RISE
rule_of (no_value i) = NOT_A_VALUE

-- the column of a flaw, from 1
abbrev pub column_of : Flaw → ℕ
column_of too_many = 1
column_of wrong_count = 1
column_of no_time = 1
column_of no_rise = 1
column_of (no_value i) = i + 2

-- the number of the first record that is too many
abbrev pub first_too_many : ℕ
first_too_many = MOST_TICKS + 2

-- a record that is not too many, of one field and then a cell for each column
pub record IsWhole (columns : List Column) (number : ℕ) (fields : List (List ℕ)) : Type 0 where
  pub few : number < first_too_many
  pub first : List ℕ
  pub cells : List (List ℕ)
  pub fields_are : fields ≡ first ∷ cells
  pub count : length cells ≡ length columns

-- the record of this number, behind a row of this time, has this flaw, and none that comes before it
abbrev pub HasFirst : List Column → ℕ → ℤ → List (List ℕ) → Flaw → Type 0
HasFirst columns number last fields too_many = number ≡ first_too_many
HasFirst columns number last fields wrong_count = (number < first_too_many) × (length fields ≢ length columns + 1)
HasFirst columns number last fields no_time = (w : IsWhole columns number fields) × (time_of w.first ≡ None)
HasFirst columns number last fields no_rise = (w : IsWhole columns number fields) × (t : ℤ) × (time_of w.first ≡ Some t) × (t ≤ℤ last)
HasFirst columns number last fields (no_value i) =
    (w : IsWhole columns number fields) × (t : ℤ) × (time_of w.first ≡ Some t) × (last <ℤ t) × IsFirstBad columns w.cells i

-- the time of the last row, or `last` where there is no row
abbrev pub time_after : ℤ → List TableRow → ℤ
time_after last [] = last
time_after last (row ∷ rows) = time_after row.time rows

-- The records before this one are a table, and this one has a flaw.
pub record IsFlawed (columns : List Column) (records : List (List (List ℕ))) (rule row column : ℕ) : Type 0 where
  pub before : List (List (List ℕ))
  pub fields : List (List ℕ)
  pub after : List (List (List ℕ))
  pub records_are : records ≡ before ++ fields ∷ after
  pub rows : List TableRow
  pub table : IsTable columns before rows
  pub row_is : row ≡ length before + 1
  pub flaw : Flaw
  pub has : HasFirst columns row (time_after before_all rows) fields flaw
  pub rule_is : rule ≡ rule_of flaw
  pub column_is : column ≡ column_of flaw

-- the fields of the first record, and none where there is no record
abbrev pub first_of : List (List (List ℕ)) → List (List ℕ)
first_of [] = []
first_of (fields ∷ rest) = fields

-- The fields are the names up to a place, counted from 0, at which one of the two differs from the other, or is missing.
pub record DifferFirst (fields names : List (List ℕ)) (place : ℕ) : Type 0 where
  pub before : (k : ℕ) → k < place → field_at fields k ≡ field_at names k
  pub here : field_at fields place ≡ field_at names place → ⊥

-- The first record is not the header, or there is none: its first column that differs, is missing or is too many.
pub record HasOtherHeader (columns : List Column) (records : List (List (List ℕ))) (rule row column : ℕ) : Type 0 where
  pub place : ℕ
  pub differ : DifferFirst (first_of records) (header_of columns) place
  pub rule_is : rule ≡ WRONG_HEADER
  pub row_is : row ≡ 1
  pub column_is : column ≡ place + 1

-- The records break this rule at this row and column, and none that comes before it. Rows are records and columns are fields,
-- both counted from 1.
abbrev pub IsFirstBroken : List Column → List (List (List ℕ)) → ℕ → ℕ → ℕ → Type 0
IsFirstBroken columns records rule row column = HasOtherHeader columns records rule row column ⊎ IsFlawed columns records rule row column

-- a fault is the first broken rule, unless memory ran out
abbrev pub NamesFirst : List Column → List (List (List ℕ)) → TableFault → Type 0
NamesFirst columns records (Rule rule row column) = IsFirstBroken columns records rule row column
NamesFirst columns records OutOfMemory = Unit {0}

-- a fault of a rule leaves no rows that make the records a table
abbrev pub Refuses : List Column → List (List (List ℕ)) → TableFault → Type 0
Refuses columns records (Rule rule row column) = (rows : List TableRow) → IsTable columns records rows → ⊥
Refuses columns records OutOfMemory = Unit {0}

-- no other rule, row or column is the first that the records break
abbrev pub IsOnly : List Column → List (List (List ℕ)) → TableFault → Type 0
IsOnly columns records (Rule rule row column) =
    (a b c : ℕ) → IsFirstBroken columns records a b c → (a ≡ rule) × (b ≡ row) × (c ≡ column)
IsOnly columns records OutOfMemory = Unit {0}
