use Rattle.std.proofs.Common.{◌≡◌, ◌<◌, ◌+◌, ◌++◌, ℤ, List, [], drop, length}
use Rattle.csv.specs.Records.{fields_of}
use Rattle.cdl_table.specs.inner.Scan.{words_from}
use Rattle.cdl_table.proofs.record.read_words.Given as goal

abbrev pub invariant-loop-i : goal.invariant-loop-i
invariant-loop-i l =
    record {
      few : length l.inputs < 4294967294;
      done : List ℤ;
      flat : l.words ≡ l.initial.words ++ done;
      same : words_from 2 [] l.inputs (drop 1 (fields_of l.csv_record)) ≡ words_from (l.i + 2) done (drop l.i l.inputs) (drop (l.i + 1) (fields_of l.csv_record));
    }
