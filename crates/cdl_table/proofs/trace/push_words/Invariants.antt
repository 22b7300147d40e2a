use Rattle.std.proofs.Common.{◌≡◌, ◌++◌, drop}
use Rattle.csv.specs.Writing.{default_writer, fields_text}
use Rattle.cdl_table.specs.Trace.{word_texts}
use Rattle.cdl_table.specs.Values.{AreValues}
use Rattle.cdl_table.proofs.trace.push_words.Given as goal

abbrev pub invariant-loop-i : goal.invariant-loop-i
invariant-loop-i l =
    record {
      left : AreValues (drop l.i l.columns) (drop l.i l.words);
      texts : l.buffer.items ++ fields_text default_writer (word_texts (drop l.i l.columns) (drop l.i l.words)) ≡ l.initial.buffer.items ++ fields_text default_writer (word_texts l.columns l.words);
    }
