-- What a sequence is answered, by what is asked of it.
use Rattle.std.specs.Prelude.{◌≡◌, ℕ, ℤ, ◌+◌, ◌<◌, ◌≤◌, List, [], length, Option, Some, None, codes}
use Rattle.cdl_source.specs.declared.limits.TheConstants.{LONGEST_DOCUMENT}
use Rattle.cdl_source.specs.declared.rules.TheConstants.{CXF_TOO_LONG}
use Rattle.cdl_tree.specs.declared.class.FileTree.{FileTree}
use Rattle.cdl_model.specs.Parts.{Unfolding}
use Rattle.cdl_table.specs.TableRow.{TableRow}
use Rattle.cdl_trace.specs.Columns.{input_columns}
use Rattle.cdl_trace.specs.Ends.{Ends}
use Rattle.cdl_command.specs.Texts.{Contents, Holds}
use Rattle.cdl_command.specs.Sequences.{Sequence, FirstRead, AllRead, IsAccepted, labelled}
use Rattle.cdl_command.specs.Breaks.{Breaks, root_path}
use Rattle.cdl_command.specs.Documents.{IsDocument}
use Rattle.cdl_command.specs.Tables.{HoldsRows, BreaksTable}
use Rattle.cdl_job.specs.declared.outcome.Outcome.{Outcome}
use Rattle.cdl_job.specs.declared.outcome.Outcome.TheVariants.{Done, Refused, RangeFault}
use Rattle.cdl_job.specs.declared.outcome.Spot.{Spot}

-- what is asked of a sequence: whether it breaks a rule, its document, or its run over a table
pub data Ask : Type 0 where
  ForCheck : Ask
  ForDocument : Ask
  ForRun : List ℕ → Ask

pub record Work : Type 0 where
  pub sequence : Sequence
  pub ask : Ask

-- how ticks end that have this first fault, or none
abbrev pub outcome_of : Option (ℤ × List ℕ) → Outcome
outcome_of None = Done
outcome_of (Some fault) = RangeFault fault.0 fault.1

-- what a check prints
abbrev pub checked_text : List ℕ
checked_text = codes "ok\n"

-- The outcome, and the text on standard output.
pub data Verdict (contents : Contents) (work : Work) : Outcome → List ℕ → Type 0 where
  -- the sequence breaks this rule first
  broken : {rule : ℕ} {spot : Spot} → Breaks contents work.sequence rule spot → Verdict contents work (Refused rule spot) []
  -- it breaks none, and no more was asked
  checked : (u : Unfolding) → IsAccepted contents work.sequence u → work.ask ≡ ForCheck → Verdict contents work Done checked_text
  -- it breaks none, and this is its document, which isn't too long
  documented : {text : List ℕ} (u : Unfolding) → IsAccepted contents work.sequence u → work.ask ≡ ForDocument → IsDocument u text
      → length text ≤ LONGEST_DOCUMENT → Verdict contents work Done text
  -- it breaks none, and its document is too long
  long_document : (u : Unfolding) (text : List ℕ) → IsAccepted contents work.sequence u → work.ask ≡ ForDocument → IsDocument u text
      → LONGEST_DOCUMENT < length text → Verdict contents work (Refused CXF_TOO_LONG root_path) []
  -- it breaks none, and the table of its inputs breaks this rule of C60 to C66 first
  table_rule : {rule : ℕ} {spot : Spot} (u : Unfolding) (table bytes : List ℕ) → IsAccepted contents work.sequence u → work.ask ≡ ForRun table
      → Holds contents table bytes → BreaksTable (input_columns (labelled u)) bytes rule spot → Verdict contents work (Refused rule spot) []
  -- no rule is broken, and the ticks of the table's rows end so
  ran : {outcome : Outcome} {text : List ℕ} (u : Unfolding) (table : List ℕ) (rows : List TableRow) (fault : Option (ℤ × List ℕ))
      → IsAccepted contents work.sequence u → work.ask ≡ ForRun table → HoldsRows contents table (input_columns (labelled u)) rows
      → Ends (labelled u) rows fault text → outcome ≡ outcome_of fault → Verdict contents work outcome text

-- Of so many models that were begun, each was begun in its turn, where those before it hold texts with trees.
pub data InTurn (contents : Contents) (names : List (List ℕ)) : ℕ → Type 0 where
  model : (trees : List FileTree) → FirstRead contents names trees → length trees < length names → InTurn contents names (length trees + 1)
  all_models : (trees : List FileTree) → AllRead contents names trees → InTurn contents names (length names)

-- Of so many files that were begun, each was begun in its turn: the models, and then the table, where the sequence breaks no rule.
pub data InOrder (contents : Contents) (work : Work) : ℕ → Type 0 where
  models : {count : ℕ} → InTurn contents work.sequence.models count → InOrder contents work count
  the_table : (u : Unfolding) (table : List ℕ) → IsAccepted contents work.sequence u → work.ask ≡ ForRun table
      → InOrder contents work (length work.sequence.models + 1)
