-- What the ticks of a table leave on a sink.
use Rattle.std.specs.Prelude.{ℕ, ℤ, ◌≡◌, List, Option, Some, Result, Ok, Err}
use Rattle.cdl_source.specs.Causes.{Rose}
use Rattle.cdl_source.specs.Outside.{written_after}
use Rattle.cdl_source.specs.Whole.{WritesSome}
use Rattle.cdl_table.specs.TableRow.{TableRow}
use Rattle.cdl_trace.specs.declared.stop.TraceStop.{TraceStop}
use Rattle.cdl_trace.specs.declared.stop.TraceStop.TheVariants.{RangeFault, WriteFault, OutOfMemory}
use Rattle.cdl_trace.specs.Columns.{Labelled}
use Rattle.cdl_trace.specs.Ends.{Ends}

-- The ticks end with this fault or with none, and all that they print was written.
pub record Prints {I E : Type 0} (s : Labelled I E) (rows : List TableRow) (fault : Option (ℤ × List ℕ)) (old new : Option (List ℕ)) : Type 0 where
  pub text : List ℕ
  pub ends : Ends s rows fault text
  pub written : new ≡ written_after old text

-- A front of what the ticks print was written.
pub record PrintsSome {I E : Type 0} (s : Labelled I E) (rows : List TableRow) (old new : Option (List ℕ)) : Type 0 where
  pub fault : Option (ℤ × List ℕ)
  pub text : List ℕ
  pub ends : Ends s rows fault text
  pub some : WritesSome old new text

-- what was written where the ticks stop so
abbrev pub Stops : {I E : Type 0} → Labelled I E → List TableRow → Option (List ℕ) → Option (List ℕ) → TraceStop → Type 0
Stops s rows old new (RangeFault time path) = Prints s rows (Some (time, path)) old new
Stops s rows old new WriteFault = PrintsSome s rows old new
Stops s rows old new OutOfMemory = PrintsSome s rows old new

-- No fault of the sink is passed over: its count rose where the sink failed, and else it stayed.
abbrev pub FaultIsAnswered : {T : Type 0} → ℕ → ℕ → Result T TraceStop → Type 0
FaultIsAnswered before now (Ok done) = now ≡ before
FaultIsAnswered before now (Err (RangeFault time path)) = now ≡ before
FaultIsAnswered before now (Err WriteFault) = Rose before now
FaultIsAnswered before now (Err OutOfMemory) = now ≡ before
