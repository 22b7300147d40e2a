use Rattle.cdl_table.specs.Rows.{table_records}
use Rattle.cdl_table.proofs.BrokenLaw.{names-first, names-only}
use Rattle.cdl_table.proofs.TableLaw.{names-refuses, table-sound, table-unique}
use Rattle.cdl_table.proofs.ValueLaw.{have-values}
use Rattle.cdl_table.proofs.table.Table.check.Goals as goal

pub returns-in-Ok-clause-ok : goal.returns-in-Ok-clause-ok
returns-in-Ok-clause-ok c = let ok = rw c.items.ensures at c.in-Ok.ensures.ok in table-sound _ _ _ ok

pub returns-in-Ok-clause-only : goal.returns-in-Ok-clause-only
returns-in-Ok-clause-only c = let ok = rw c.items.ensures at c.in-Ok.ensures.ok in λ rows is. table-unique _ _ _ _ is (table-sound _ _ _ ok)

pub returns-in-Ok-clause-values : goal.returns-in-Ok-clause-values
returns-in-Ok-clause-values c = let ok = rw c.items.ensures at c.in-Ok.ensures.ok in have-values c.args.inputs.now (table_records c.args.bytes.now) _ (table-sound _ _ _ ok)

pub returns-in-Err-clause-first : goal.returns-in-Err-clause-first
returns-in-Err-clause-first c = let err = rw c.items.ensures at c.in-Err.ensures.err in names-first _ _ _ err

pub returns-in-Err-clause-refused : goal.returns-in-Err-clause-refused
returns-in-Err-clause-refused c = let err = rw c.items.ensures at c.in-Err.ensures.err in names-refuses _ _ _ err

pub returns-in-Err-clause-only_first : goal.returns-in-Err-clause-only_first
returns-in-Err-clause-only_first c = let err = rw c.items.ensures at c.in-Err.ensures.err in names-only _ _ _ err
