-- What the reading of models and of a table leaves.
use Rattle.std.specs.Prelude.{◌≡◌, ◌≤◌, ℕ, zero, suc, ◌+◌, List, Option, Some, slice_get, length, ⊤}
use Rattle.cdl_source.specs.Outside.{due_after}
use Rattle.cdl_source.specs.declared.limits.TheConstants.{LONGEST_MODEL}
use Rattle.cdl_source.specs.declared.place.Place.{Place}
use Rattle.cdl_source.specs.declared.rules.TheConstants.{MODEL_TOO_LONG}
use Rattle.cdl_source.specs.declared.whole.ReadError.{ReadError}
use Rattle.cdl_source.specs.declared.whole.ReadError.TheVariants as read
use Rattle.cdl_tree.specs.declared.class.FileTree.{FileTree}
use Rattle.cdl_table.specs.declared.column.Column.{Column}
use Rattle.cdl_job.specs.declared.outcome.Spot.{Spot}
use Rattle.cdl_job.specs.declared.outcome.Spot.TheVariants.{Source}
use Rattle.cdl_command.specs.inner.Stops.{Stops, refusal_at, refusal_of}
use Rattle.cdl_command.specs.Tables.{BreaksTable}
use Rattle.cdl_command.specs.Texts.{Contents, Holds, FirstHold, HaveTrees, BreaksText}
use Rattle.cdl_command.specs.declared.stop.Refusal.{Refusal}
use Rattle.cdl_command.specs.declared.stop.Stop.{Stop}
use Rattle.cdl_command.specs.declared.stop.Stop.TheVariants.{Refused, ReadFault, OutOfMemory}
use Rattle.cdl_command.specs.declared.texts.Models.{Models}

-- Each text is no longer than a text may be.
abbrev pub AreShort : List (List ℕ) → Type 0
AreShort texts = (k : ℕ) (text : List ℕ) → slice_get texts k ≡ Some text → length text ≤ LONGEST_MODEL

-- The head of a text that is too long is no longer than a text may be.
abbrev pub IsShortHead : ReadError → Type 0
IsShortHead read.Failed = ⊤
IsShortHead (read.TooLarge head) = length head ≤ LONGEST_MODEL
IsShortHead read.OutOfMemory = ⊤

abbrev pub at_place : ℕ → Place → List ℕ → Refusal
at_place rule place text = refusal_at rule (Source place) place.byte text

-- what a model that was not read whole is answered with
abbrev pub stop_of : ReadError → ℕ → Stop
stop_of read.Failed file = ReadFault
stop_of (read.TooLarge head) file = Refused (at_place MODEL_TOO_LONG (record { file = file; byte = LONGEST_MODEL }) head)
stop_of read.OutOfMemory file = OutOfMemory

-- The text breaks a rule of C1 to C8.
pub record RefusesBytes (file : ℕ) (text : List ℕ) (r : Refusal) : Type 0 where
  pub rule : ℕ
  pub place : Place
  pub broken : BreaksText file text rule place
  pub refusal_is : r ≡ at_place rule place text

-- The name holds a text that breaks one.
pub record RefusesText (contents : Contents) (name : List ℕ) (file : ℕ) (r : Refusal) : Type 0 where
  pub text : List ℕ
  pub holds : Holds contents name text
  pub refuses : RefusesBytes file text r

-- The models before one hold texts with trees, that one was begun last, and then came this stop.
pub record StopsInTexts (contents : Contents) (names : List (List ℕ)) (before now : ℕ) (rose : Type 0) (stop : Stop) : Type 0 where
  pub texts : List (List ℕ)
  pub trees : List FileTree
  pub hold : FirstHold contents names texts
  pub have : HaveTrees texts trees
  pub name : List ℕ
  pub name_is : slice_get names (length texts) ≡ Some name
  pub begun : now ≡ before + length texts + 1
  pub cause : Stops rose (RefusesText contents name (length texts)) stop

-- The names hold these texts, which have these trees.
pub record AreModels (contents : Contents) (names : List (List ℕ)) (models : Models) : Type 0 where
  pub hold : FirstHold contents names models.texts
  pub have : HaveTrees models.texts models.trees
  pub all : length models.texts ≡ length names

-- The name holds a text that breaks a rule of tables.
pub record RefusesTable (contents : Contents) (name : List ℕ) (inputs : List Column) (r : Refusal) : Type 0 where
  pub bytes : List ℕ
  pub rule : ℕ
  pub spot : Spot
  pub holds : Holds contents name bytes
  pub broken : BreaksTable inputs bytes rule spot
  pub refusal_is : r ≡ refusal_of rule spot

-- the due names behind the first so many
abbrev pub due_behind : ℕ → Option (List (List ℕ)) → Option (List (List ℕ))
due_behind zero due = due
due_behind (suc n) due = due_after (due_behind n due)
