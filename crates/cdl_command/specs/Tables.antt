-- The tables of a block's inputs, and the first rule that a text breaks.
use Rattle.std.specs.Prelude.{◌≡◌, ◌≤◌, ◌<◌, ◌⊎◌, ℕ, List, length}
use Rattle.cdl_source.specs.declared.limits.TheConstants.{LONGEST_TABLE}
use Rattle.cdl_source.specs.declared.rules.TheConstants.{TABLE_TOO_LONG}
use Rattle.cdl_table.specs.declared.column.Column.{Column}
use Rattle.cdl_table.specs.Broken.{IsFirstBroken}
use Rattle.cdl_table.specs.IsTable.{IsTable}
use Rattle.cdl_table.specs.Rows.{table_records}
use Rattle.cdl_table.specs.TableRow.{TableRow}
use Rattle.cdl_command.specs.Texts.{Contents, Holds}
use Rattle.cdl_job.specs.declared.outcome.Spot.{Spot}
use Rattle.cdl_job.specs.declared.outcome.Spot.TheVariants.{Cell, Whole}

-- the text is a table of these inputs with these rows
abbrev pub IsTableText : List Column → List ℕ → List TableRow → Type 0
IsTableText inputs bytes rows = (length bytes ≤ LONGEST_TABLE) × IsTable inputs (table_records bytes) rows

-- the text is a table of these inputs with these rows, and with no others
abbrev pub HasRows : List Column → List ℕ → List TableRow → Type 0
HasRows inputs bytes rows = IsTableText inputs bytes rows × ((other : List TableRow) → IsTableText inputs bytes other → other ≡ rows)

-- The name holds a table of these inputs with these rows.
abbrev pub HoldsRows : Contents → List ℕ → List Column → List TableRow → Type 0
HoldsRows contents name inputs rows = (bytes : List ℕ) × Holds contents name bytes × HasRows inputs bytes rows

-- The text is too long: C60, of the table as a whole.
abbrev pub IsTooLong : List ℕ → ℕ → Spot → Type 0
IsTooLong bytes rule spot = (LONGEST_TABLE < length bytes) × (rule ≡ TABLE_TOO_LONG) × (spot ≡ Whole)

-- The text isn't too long, and its records break this rule first, at the cell of this spot.
pub record HasBrokenCell (inputs : List Column) (bytes : List ℕ) (rule : ℕ) (spot : Spot) : Type 0 where
  pub short : length bytes ≤ LONGEST_TABLE
  pub row : ℕ
  pub column : ℕ
  pub broken : IsFirstBroken inputs (table_records bytes) rule row column
  pub spot_is : spot ≡ Cell row column

-- The text breaks this rule of tables at this spot, and none that comes before it.
abbrev pub BreaksFirst : List Column → List ℕ → ℕ → Spot → Type 0
BreaksFirst inputs bytes rule spot = IsTooLong bytes rule spot ⊎ HasBrokenCell inputs bytes rule spot

-- No other rule and no other spot is the first that the text breaks.
abbrev pub IsOnlyFirst : List Column → List ℕ → ℕ → Spot → Type 0
IsOnlyFirst inputs bytes rule spot = (r : ℕ) (s : Spot) → BreaksFirst inputs bytes r s → (r ≡ rule) × (s ≡ spot)

-- The text is no table of these inputs, and this rule at this spot is the first that it breaks.
pub record BreaksTable (inputs : List Column) (bytes : List ℕ) (rule : ℕ) (spot : Spot) : Type 0 where
  pub none : (rows : List TableRow) → IsTableText inputs bytes rows → ⊥
  pub first : BreaksFirst inputs bytes rule spot
  pub only : IsOnlyFirst inputs bytes rule spot
