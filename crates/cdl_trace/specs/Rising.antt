-- Rows whose times rise.
use Rattle.std.specs.Prelude.{ℤ, ◌<ℤ◌, List, [], ◌∷◌}
use Rattle.cdl_table.specs.TableRow.{TableRow}

-- each time is above the one before, the first above `last`
abbrev pub Rise : ℤ → List TableRow → Type 0
Rise last [] = Unit {0}
Rise last (row ∷ rows) = (last <ℤ row.time) × Rise row.time rows
