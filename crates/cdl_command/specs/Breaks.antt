-- The rule that a sequence breaks first: a case for each phase, in the order of work.
use Rattle.std.specs.Prelude.{◌≡◌, ℕ, List, [], ◌∷◌, ◌++◌, length, None, codes}
use Rattle.cdl_source.specs.declared.place.Place.{Place}
use Rattle.cdl_source.specs.declared.rules.TheConstants.{NO_SUCH_BLOCK}
use Rattle.cdl_tree.specs.declared.class.FileTree.{FileTree}
use Rattle.cdl_scopes.specs.Classes.{cut, declared}
use Rattle.cdl_classes.specs.Table.{block_of}
use Rattle.cdl_classes.specs.Verdict.{IsUnbroken, BreaksFirst as BreaksClasses}
use Rattle.cdl_params.specs.Kept.{Model}
use Rattle.cdl_paths.specs.declared.path.Step.{Step}
use Rattle.cdl_walk.specs.Texts.{path_text}
use Rattle.cdl_model.specs.Networks.{network}
use Rattle.cdl_model.specs.Parts.{Unfolding}
use Rattle.cdl_expand.specs.Expanded.{BreaksInstance, BreaksStatement, IsExpanded}
use Rattle.cdl_check.specs.Broken.{BreaksFirst as BreaksNetwork}
use Rattle.cdl_check.specs.declared.fault.NetSpot.{NetSpot}
use Rattle.cdl_check.specs.declared.fault.NetSpot.TheVariants as net
use Rattle.cdl_command.specs.Sequences.{Sequence, AllRead, IsRead, element_path}
use Rattle.cdl_command.specs.Texts.{Contents, FirstHold, HaveTrees, BreaksText}
use Rattle.cdl_job.specs.declared.outcome.Spot.{Spot}
use Rattle.cdl_job.specs.declared.outcome.Spot.TheVariants.{Source, Path, Statement, Wire}

-- the path of the class that is checked or run
abbrev pub root_path : Spot
root_path = Path (codes "#")

-- a place of a network by the texts of its paths
abbrev pub spot_of : NetSpot → Spot
spot_of (net.Wire left right) = Wire left right
spot_of (net.Path path) = Path path

-- The sequence breaks this rule, at this spot, and none that comes before it.
pub data Breaks (contents : Contents) (s : Sequence) : ℕ → Spot → Type 0 where
  -- the models before this one have trees, and it breaks this rule of C1 to C8 first
  text_rule : {rule : ℕ} {place : Place} (texts : List (List ℕ)) (trees : List FileTree) (text : List ℕ)
      → FirstHold contents s.models (texts ++ text ∷ []) → HaveTrees texts trees → BreaksText (length texts) text rule place
      → Breaks contents s rule (Source place)
  -- the trees of all models break this rule of C10 to C13 first
  class_rule : {rule : ℕ} {place : Place} (trees : List FileTree) → AllRead contents s.models trees
      → BreaksClasses (declared trees) rule place → Breaks contents s rule (Source place)
  -- they break none, and the class is no declared block
  no_block : (trees : List FileTree) → AllRead contents s.models trees → IsUnbroken (declared trees)
      → block_of (declared trees) (cut s.class) ≡ None → Breaks contents s NO_SUCH_BLOCK root_path
  -- it is one, and its model breaks this rule of C20 to C32 and C38 first
  instance_rule : {rule : ℕ} (w : Model) (path : List Step) → IsRead contents s w → BreaksInstance w rule path
      → Breaks contents s rule (Path (path_text path))
  -- it breaks none of these, and this rule of C39 to C42 and C47 first
  statement_rule : {rule : ℕ} {place : Place} (w : Model) (path : List Step) → IsRead contents s w → BreaksStatement w rule path place
      → Breaks contents s rule (Statement (path_text path) place)
  -- it breaks none of these either, and its network breaks this rule of C43 to C46, C48 and C50 first
  network_rule : {rule : ℕ} (w : Model) (u : Unfolding) (place : NetSpot) → IsRead contents s w → IsExpanded w u
      → BreaksNetwork (network u) path_text element_path rule place → Breaks contents s rule (spot_of place)
