use Rattle.std.proofs.Common.{◌≡◌, take}
use Rattle.cdl_run.specs.Running.{Stands}
use Rattle.cdl_trace.specs.Columns.{labelled, output_columns}
use Rattle.cdl_trace.specs.Ends.{ticks_of}
use Rattle.cdl_trace.specs.inner.Steps.{Wrote}
use Rattle.cdl_trace.proofs.writing.write_rows.Given as goal

abbrev pub invariant-loop-number : goal.invariant-loop-number
invariant-loop-number g l =
    record {
      wrote : Wrote (labelled l.fn.runner.net) (ticks_of (take l.number l.table)) (g.O.Sink.written l.fn.out) (g.O.Sink.written l.out);
      stands : Stands l.runner (ticks_of (take l.number l.table));
      net : l.runner.net ≡ l.fn.runner.net;
      writer : l.writer ≡ output_columns (labelled l.fn.runner.net);
      kept : g.O.Sink.faults l.out ≡ g.O.Sink.faults l.fn.out;
    }
