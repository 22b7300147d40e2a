use Rattle.std.proofs.Common.{◌≡◌, ◌≤◌, ◌<◌, ◌*◌, ◌-◌, List, ℕ, length}
use Rattle.cdl_table.specs.Broken.{first_too_many}
use Rattle.cdl_table.specs.Rows.{Gives, table_records}
use Rattle.cdl_table.specs.inner.Scan.{rows_from, table_of}
use Rattle.cdl_table.specs.TableRow.{rows_of}
use Rattle.cdl_table.proofs.scan.scan.Given as goal

abbrev pub invariant-loop-words : goal.invariant-loop-words
invariant-loop-words l =
    record {
      counted : l.number ≤ first_too_many;
      few : length l.inputs < 4294967294;
      flat : length l.words ≡ length l.times * length l.inputs;
      rest : List (List (List ℕ));
      gives : Gives l.records rest;
      same : table_of l.inputs (table_records l.bytes) ≡ rows_from l.inputs l.number l.last (rows_of (length l.inputs) l.times l.words) rest;
    }

abbrev pub decreases-loop-words : goal.decreases-loop-words
decreases-loop-words l = first_too_many - l.number
