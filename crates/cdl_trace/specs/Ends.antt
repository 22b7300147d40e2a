-- How the ticks of a table end, and the text that they print: that of the solutions of the network.
use Rattle.std.specs.Prelude.{ℕ, ℤ, ◌≡◌, List, [], ◌∷◌, ◌++◌, map, Option, Some, None}
use Rattle.std.specs.Option.{option_map}
use Rattle.cdl_network.specs.Ticks.{Seen, Solves, Tick, Valuation, fault_of, first_fault, seen, words}
use Rattle.cdl_table.specs.TableRow.{TableRow}
use Rattle.cdl_table.specs.Trace.{header_text, record_text}
use Rattle.cdl_trace.specs.Columns.{Labelled, output_columns, root_outputs}

abbrev pub tick_of : TableRow → Tick
tick_of row = record { time = row.time; row = row.words }

abbrev pub ticks_of : List TableRow → List Tick
ticks_of rows = map tick_of rows

-- the record of a tick: its time, and the values of the outputs of the root
abbrev pub record_of : {I E : Type 0} → Labelled I E → Tick → Valuation E → List ℕ
record_of s t v = record_text (output_columns s) t.time (words v (root_outputs s.network))

-- nothing where there is a fault
abbrev pub unless : {I : Type 0} → Option I → List ℕ → List ℕ
unless None text = text
unless (Some i) text = []

-- the records of the ticks before the first fault
abbrev pub records_of : {I E : Type 0} → Labelled I E → List (Seen E) → List Tick → List (Valuation E) → List ℕ
records_of s past [] vs = []
records_of s past (t ∷ ts) [] = []
records_of s past (t ∷ ts) (v ∷ vs) = unless (first_fault s.network past t v) (record_of s t v ++ records_of s (seen t v ∷ past) ts vs)

-- what these valuations print at the ticks of these rows: the header, and the records before the first fault
abbrev pub trace_of : {I E : Type 0} → Labelled I E → List TableRow → List (Valuation E) → List ℕ
trace_of s rows vs = header_text (output_columns s) ++ records_of s [] (ticks_of rows) vs

-- the time of a fault, and the path of the instance that has it
abbrev pub fault_text : {I E : Type 0} → Labelled I E → ℤ × I → ℤ × List ℕ
fault_text s f = (f.0, s.path f.1)

-- the first fault
abbrev pub fault_in : {I E : Type 0} → Labelled I E → List TableRow → List (Valuation E) → Option (ℤ × List ℕ)
fault_in s rows vs = option_map (fault_text s) (fault_of s.network [] (ticks_of rows) vs)

-- The ticks of these rows end with this fault or with none, and print this text: the network has a solution, and each of its solutions has this fault and this text.
pub record Ends {I E : Type 0} (s : Labelled I E) (rows : List TableRow) (fault : Option (ℤ × List ℕ)) (text : List ℕ) : Type 0 where
  pub solution : List (Valuation E)
  pub solves : Solves s.network [] (ticks_of rows) solution
  pub fault_is : (vs : List (Valuation E)) → Solves s.network [] (ticks_of rows) vs → fault ≡ fault_in s rows vs
  pub text_is : (vs : List (Valuation E)) → Solves s.network [] (ticks_of rows) vs → text ≡ trace_of s rows vs
