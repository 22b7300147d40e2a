-- What one tick leaves on a sink, and what the ticks so far have left.
use Rattle.std.specs.Prelude.{ℕ, ℤ, ◌≡◌, ◌⊎◌, List, [], ◌∷◌, ◌++◌, map, Option, Some}
use Rattle.cdl_source.specs.Outside.{written_after}
use Rattle.cdl_source.specs.Whole.{WritesSome}
use Rattle.cdl_values.specs.History.{word}
use Rattle.cdl_network.specs.Ticks.{Runs, Solves, Tick, Valuation}
use Rattle.cdl_connect.specs.declared.net.Net.{Net}
use Rattle.cdl_connect.specs.WellFormed.{path_of}
use Rattle.cdl_connect.specs.Nets.{network_of}
use Rattle.cdl_run.specs.Running.{Running}
use Rattle.cdl_run.specs.Runs.{HasFault}
use Rattle.cdl_table.specs.TableRow.{TableRow}
use Rattle.cdl_table.specs.declared.trace.TraceError.{TraceError}
use Rattle.cdl_table.specs.declared.trace.TraceError.TheVariants as trace
use Rattle.cdl_trace.specs.declared.stop.TraceStop.{TraceStop}
use Rattle.cdl_trace.specs.declared.stop.TraceStop.TheVariants.{RangeFault, WriteFault, OutOfMemory}
use Rattle.cdl_trace.specs.Columns.{Labelled, labelled, root_outputs}
use Rattle.cdl_trace.specs.Ends.{fault_in, record_of, records_of, ticks_of}

abbrev pub stop_of : TraceError → TraceStop
stop_of trace.WriteFault = WriteFault
stop_of trace.OutOfMemory = OutOfMemory

-- the words of the outputs of the root
abbrev pub output_words : Running → List ℤ
output_words r = map (word r.words) (root_outputs (network_of r.net))

-- the fault of the instance of this path at this time, unless memory fails
abbrev pub IsFaulted : ℤ → List ℕ → TraceStop → Type 0
IsFaulted time path stop = (stop ≡ RangeFault time path) ⊎ (stop ≡ OutOfMemory)

-- Behind these ticks this one has no fault, and this is its record.
pub record Gives {I E : Type 0} (s : Labelled I E) (ts : List Tick) (t : Tick) (text : List ℕ) : Type 0 where
  pub before : List (Valuation E)
  pub here : Valuation E
  pub past : Runs s.network ts before
  pub runs : Runs s.network (ts ++ t ∷ []) (before ++ here ∷ [])
  pub text_is : text ≡ record_of s t here

-- The record of this tick was written.
abbrev pub WroteTick : {I E : Type 0} → Labelled I E → List Tick → Tick → Option (List ℕ) → Option (List ℕ) → Type 0
WroteTick s ts t old new = (text : List ℕ) × Gives s ts t text × (new ≡ written_after old text)

-- A front of it was written.
abbrev pub SomeOfTick : {I E : Type 0} → Labelled I E → List Tick → Tick → Option (List ℕ) → Option (List ℕ) → Type 0
SomeOfTick s ts t old new = (new ≡ old) ⊎ ((text : List ℕ) × Gives s ts t text × WritesSome old new text)

-- The tick has a fault in each solution, at the instance of this path.
pub record Faults (n : Net) (ts : List Tick) (t : Tick) (path : List ℕ) : Type 0 where
  pub instance : ℕ
  pub fault : HasFault n ts t instance
  pub path_is : path ≡ path_of n instance

abbrev pub CutsTick : Net → List Tick → Tick → Option (List ℕ) → Option (List ℕ) → TraceStop → Type 0
CutsTick n ts t old new (RangeFault time path) = Faults n ts t path × (t.time ≡ time) × (new ≡ old)
CutsTick n ts t old new WriteFault = SomeOfTick (labelled n) ts t old new
CutsTick n ts t old new OutOfMemory = SomeOfTick (labelled n) ts t old new

-- The records of these ticks were written, and none has a fault.
pub record Wrote {I E : Type 0} (s : Labelled I E) (ts : List Tick) (old new : Option (List ℕ)) : Type 0 where
  pub values : List (Valuation E)
  pub runs : Runs s.network ts values
  pub written : new ≡ written_after old (records_of s [] ts values)

-- A solution has this fault or none, and its records were written.
pub record Ran {I E : Type 0} (s : Labelled I E) (rows : List TableRow) (fault : Option (ℤ × List ℕ)) (old new : Option (List ℕ)) : Type 0 where
  pub solution : List (Valuation E)
  pub solves : Solves s.network [] (ticks_of rows) solution
  pub fault_is : fault ≡ fault_in s rows solution
  pub written : new ≡ written_after old (records_of s [] (ticks_of rows) solution)

-- A front of the records of a solution was written.
pub record RanSome {I E : Type 0} (s : Labelled I E) (rows : List TableRow) (old new : Option (List ℕ)) : Type 0 where
  pub solution : List (Valuation E)
  pub solves : Solves s.network [] (ticks_of rows) solution
  pub some : WritesSome old new (records_of s [] (ticks_of rows) solution)

-- what was written behind the header where the ticks stop so
abbrev pub StopsRows : {I E : Type 0} → Labelled I E → List TableRow → Option (List ℕ) → Option (List ℕ) → TraceStop → Type 0
StopsRows s rows old new (RangeFault time path) = Ran s rows (Some (time, path)) old new
StopsRows s rows old new WriteFault = RanSome s rows old new
StopsRows s rows old new OutOfMemory = RanSome s rows old new
