-- The text of a trace: records by the rules of RFC 4180, each ended by a line feed.
use Rattle.std.specs.Prelude.{ℕ, ℤ, Bool, true, false, List, [], ◌∷◌, codes, ◌≡◌, Result, Ok, Err}
use Rattle.cdl_source.specs.Causes.{Rose}
use Rattle.cdl_table.specs.declared.trace.TraceError.{TraceError}
use Rattle.cdl_table.specs.declared.trace.TraceError.TheVariants.{WriteFault, OutOfMemory}
use Rattle.std.specs.Fmt.{signed_decimal}
use Rattle.csv.specs.Writing.{default_writer, row_text}
use Rattle.cdl_decimal.specs.Canon.{canon}
use Rattle.cdl_values.specs.History.{is_on}
use Rattle.cdl_values.specs.declared.value.ValueType.{ValueType}
use Rattle.cdl_values.specs.declared.value.ValueType.TheVariants.{Boolean, Integer, Real, Str, Enumeration}
use Rattle.cdl_table.specs.declared.column.Column.{Column}
use Rattle.cdl_table.specs.IsTable.{header_of}

-- the text of a Boolean
abbrev pub boolean_text : Bool → List ℕ
boolean_text true = codes "true"
boolean_text false = codes "false"

-- the text of a word: `true` or `false`, an Integer in decimal, a Real in its canonical text; no word is a value of another type
abbrev pub word_text : ValueType → ℤ → List ℕ
word_text Boolean w = boolean_text (is_on w)
word_text Integer w = signed_decimal w
word_text Real w = canon w
word_text Str w = []
word_text (Enumeration c) w = []

abbrev pub word_texts : List Column → List ℤ → List (List ℕ)
word_texts [] ws = []
word_texts (c ∷ cs) [] = []
word_texts (c ∷ cs) (w ∷ ws) = word_text c.value_type w ∷ word_texts cs ws

-- the first record: `time` and the names of the outputs
abbrev pub header_text : List Column → List ℕ
header_text outputs = row_text default_writer (header_of outputs)

-- the record of a tick: its time in milliseconds and the values of the outputs
abbrev pub record_text : List Column → ℤ → List ℤ → List ℕ
record_text outputs now words = row_text default_writer (signed_decimal now ∷ word_texts outputs words)

-- No fault of the sink is passed over: its count rose where the sink failed, and else it stayed.
abbrev pub FaultIsAnswered : {T : Type 0} → ℕ → ℕ → Result T TraceError → Type 0
FaultIsAnswered before now (Ok done) = now ≡ before
FaultIsAnswered before now (Err WriteFault) = Rose before now
FaultIsAnswered before now (Err OutOfMemory) = now ≡ before
