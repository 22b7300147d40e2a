-- The records that a reader has yet to give.
use Rattle.std.specs.Prelude.{◌≡◌, ◌+◌, ℕ, Bool, true, false, List, [], ◌∷◌, length, Some}
use Rattle.std.proofs.Common.{Bor}
use Rattle.csv.specs.Machine.{ends_at_end}
use Rattle.csv.specs.Reading.{Ready, default_config, is_flexible, reader_config, reader_state, reader_trim, records, records_from, source_of, strip_bom}
use Rattle.csv.specs.declared.parser.Config.{Config}
use Rattle.csv.specs.declared.parser.State.{State}
use Rattle.csv.specs.declared.error.ErrorKind.{ErrorKind}
use Rattle.csv.specs.declared.error.ErrorKind.TheVariants as kind
use Rattle.csv.specs.declared.reader.Reader.{Reader}
use Rattle.csv.specs.declared.reader.Trim.TheVariants as trim

-- The records of a text by the rules of RFC 4180: a byte order mark at its start and blank lines are dropped, and each record has its own length.
abbrev pub table_records : List ℕ → List (List (List ℕ))
table_records bytes = records default_config (strip_bom bytes)

-- every record of a text, from a state between two records
abbrev pub records_after : Config → State → List ℕ → List (List (List ℕ))
records_after cfg s xs = records_from cfg (length xs + 1) s xs

-- a reader over memory gives these records, one after another
pub record Gives (rows : Reader (Bor (List ℕ))) (rest : List (List (List ℕ))) : Type 0 where
  pub untrimmed : reader_trim rows ≡ trim.None
  pub ready : Ready rows
  pub flexible : is_flexible rows ≡ true
  pub defaults : reader_config rows ≡ default_config
  pub between : ends_at_end (reader_state rows) ≡ false
  pub text : List ℕ
  pub source : source_of (λ (s : Bor (List ℕ)). Some s.now) rows ≡ Some text
  pub gives : rest ≡ records_after default_config (reader_state rows) text

-- what a read gave of these records, and what the reader gives next
abbrev pub GaveNext : Reader (Bor (List ℕ)) → Bool → List (List ℕ) → List (List (List ℕ)) → Type 0
GaveNext rows false fields rest = rest ≡ []
GaveNext rows true fields rest = (more : List (List (List ℕ))) × (rest ≡ fields ∷ more) × Gives rows more

-- an error of a read from memory: the memory ran out, or the reader underneath failed, which a slice never does
abbrev pub IsOfMemory : ErrorKind → Type 0
IsOfMemory (kind.Io e) = Unit {0}
IsOfMemory kind.OutOfMemory = Unit {0}
IsOfMemory (kind.UnequalLengths pos expected len) = ⊥
IsOfMemory (kind.Utf8 pos err) = ⊥
IsOfMemory (kind.Serialize text) = ⊥
IsOfMemory (kind.Deserialize pos err) = ⊥
