use Rattle.std.proofs.Common.{◌≡◌, ◌<◌, ◌+◌, drop, length}
use Rattle.csv.specs.Records.{fields_of}
use Rattle.cdl_table.specs.IsTable.{header_of, names_of}
use Rattle.cdl_table.specs.inner.Scan.{header_fault}
use Rattle.cdl_table.proofs.header.header_column.Given as goal

abbrev pub invariant-loop-i : goal.invariant-loop-i
invariant-loop-i l =
    record {
      rest : header_fault 1 (header_of l.inputs) (fields_of l.csv_record) ≡ header_fault (l.i + 2) (drop l.i (names_of l.inputs)) (drop (l.i + 1) (fields_of l.csv_record));
      found : l.i < length (fields_of l.csv_record);
      few : length (fields_of l.csv_record) < 4294967294;
    }
