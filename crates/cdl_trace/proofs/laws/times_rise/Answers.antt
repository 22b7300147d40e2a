use Rattle.std.proofs.Common.{ℕ, ℤ, List, [], ◌∷◌}
use Rattle.cdl_table.specs.declared.column.Column.{Column}
use Rattle.cdl_table.specs.IsTable.{AreRows, before_all}
use Rattle.cdl_table.specs.TableRow.{TableRow}
use Rattle.cdl_trace.specs.Rising.{Rise}
use Rattle.cdl_trace.proofs.laws.times_rise.Goals as goal

rows_rise : (columns : List Column) (last : ℤ) (records : List (List (List ℕ))) (rows : List TableRow) → AreRows columns last records rows → Rise last rows
rows_rise columns last [] [] a = tt
rows_rise columns last [] (row ∷ rows) a = absurd a
rows_rise columns last (r ∷ rs) [] a = absurd a
rows_rise columns last (r ∷ rs) (row ∷ rows) a = (a.1, rows_rise columns row.time rs rows a.2)

pub returns : goal.returns
returns c columns records rows t = rows_rise columns before_all t.rest rows t.rows_are
