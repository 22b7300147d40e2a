-- From the trees of models to a plan, or the rule that is broken first.
use Rattle.std.specs.Prelude.{◌≡◌, ◌⊎◌, ℕ, ℤ, ◌+◌, List, Option, None}
use Rattle.cdl_source.specs.declared.place.Place.{Place}
use Rattle.cdl_source.specs.declared.rules.TheConstants.{NO_SUCH_BLOCK}
use Rattle.cdl_tree.specs.declared.class.FileTree.{FileTree}
use Rattle.cdl_scopes.specs.Classes.{cut, declared}
use Rattle.cdl_classes.specs.declared.found.ClassId.{ClassId}
use Rattle.cdl_classes.specs.Table.{block_of}
use Rattle.cdl_classes.specs.Verdict.{BreaksFirst as BreaksClasses}
use Rattle.cdl_params.specs.Kept.{Model}
use Rattle.cdl_paths.specs.declared.path.Step.{Step}
use Rattle.cdl_walk.specs.Texts.{path_text}
use Rattle.cdl_network.specs.FirstBroken.{Accepted}
use Rattle.cdl_connect.specs.declared.net.Net.{Net}
use Rattle.cdl_connect.specs.WellFormed.{AreOfKinds, ArePlain, IsIndexed, IsWellFormed}
use Rattle.cdl_model.specs.NetOf.{NetOf}
use Rattle.cdl_model.specs.Networks.{network}
use Rattle.cdl_model.specs.Parts.{Unfolding}
use Rattle.cdl_expand.specs.declared.fault.ExpandFault.{ExpandFault}
use Rattle.cdl_expand.specs.declared.fault.ExpandFault.TheVariants as expand
use Rattle.cdl_expand.specs.Expanded.{BreaksInstance, BreaksStatement, IsExpanded}
use Rattle.cdl_check.specs.Broken.{BreaksFirst as BreaksNetwork}
use Rattle.cdl_check.specs.declared.fault.CheckFault.{CheckFault}
use Rattle.cdl_check.specs.declared.fault.CheckFault.TheVariants as check
use Rattle.cdl_check.specs.declared.fault.NetSpot.{NetSpot}
use Rattle.cdl_table.specs.TableRow.{TableRow}
use Rattle.cdl_trace.specs.Columns.{input_columns, labelled as net_labelled}
use Rattle.cdl_trace.specs.Ends.{Ends}
use Rattle.cdl_job.specs.declared.outcome.Spot.TheVariants.{Source, Path, Statement}
use Rattle.cdl_command.specs.Texts.{Contents}
use Rattle.cdl_command.specs.Sequences.{Sequence, IsRead, element_path, labelled}
use Rattle.cdl_command.specs.Breaks.{Breaks, root_path, spot_of}
use Rattle.cdl_command.specs.Answer.{IsAtSpot}
use Rattle.cdl_command.specs.Verdict.{InTurn}
use Rattle.cdl_command.specs.inner.Stops.{Stops, refusal_in, refusal_of}
use Rattle.cdl_command.specs.declared.stop.Refusal.{Refusal}
use Rattle.cdl_command.specs.declared.stop.Stop.{Stop}
use Rattle.cdl_command.specs.declared.stop.Stop.TheVariants.{Refused, OutOfMemory}

-- the model of these trees with this root
abbrev pub model_of : List FileTree → ClassId → Model
model_of trees root = record { files = trees; root = root.index }

-- ---- why there is no plan

-- The trees of these texts break a rule of C10 to C13.
pub record RefusesClasses (texts : List (List ℕ)) (trees : List FileTree) (r : Refusal) : Type 0 where
  pub rule : ℕ
  pub place : Place
  pub broken : BreaksClasses (declared trees) rule place
  pub refusal_is : r ≡ refusal_in rule (Source place) place texts

-- The class is no declared block.
abbrev pub RefusesRoot : List ℕ → List FileTree → Refusal → Type 0
RefusesRoot class trees r = (block_of (declared trees) (cut class) ≡ None) × (r ≡ refusal_of NO_SUCH_BLOCK root_path)

-- The model breaks a rule of instances.
pub record RefusesInstance (w : Model) (r : Refusal) : Type 0 where
  pub rule : ℕ
  pub path : List Step
  pub broken : BreaksInstance w rule path
  pub refusal_is : r ≡ refusal_of rule (Path (path_text path))

-- The model of these texts breaks a rule of statements.
pub record RefusesStatement (texts : List (List ℕ)) (w : Model) (r : Refusal) : Type 0 where
  pub rule : ℕ
  pub path : List Step
  pub place : Place
  pub broken : BreaksStatement w rule path place
  pub refusal_is : r ≡ refusal_in rule (Statement (path_text path) place) place texts

-- what a model without a net is answered with
abbrev pub expand_stop : ExpandFault → List (List ℕ) → Stop
expand_stop (expand.Instance rule path) texts = Refused (refusal_of rule (Path path))
expand_stop (expand.Statement rule path place) texts = Refused (refusal_in rule (Statement path place) place texts)
expand_stop expand.OutOfMemory texts = OutOfMemory

-- The network of the model breaks a rule.
pub record RefusesNetwork (w : Model) (r : Refusal) : Type 0 where
  pub expansion : Unfolding
  pub expanded : IsExpanded w expansion
  pub rule : ℕ
  pub place : NetSpot
  pub broken : BreaksNetwork (network expansion) path_text element_path rule place
  pub refusal_is : r ≡ refusal_of rule (spot_of place)

-- what a net without a plan is answered with
abbrev pub check_stop : CheckFault → Stop
check_stop (check.Rule rule place) = Refused (refusal_of rule (spot_of place))
check_stop check.OutOfMemory = OutOfMemory

abbrev pub RefusesElements : List (List ℕ) → Model → Refusal → Type 0
RefusesElements texts w r = RefusesInstance w r ⊎ RefusesStatement texts w r

-- The model of these texts breaks a rule of C20 to C50.
abbrev pub RefusesModel : List (List ℕ) → Model → Refusal → Type 0
RefusesModel texts w r = RefusesElements texts w r ⊎ RefusesNetwork w r

-- ---- the net of a plan

-- The net is that of the model unfolded, and well formed; its numbers, kinds and types are good; it takes the tables of the model, and its ticks end as the model's do.
pub record StandsFor (u : Unfolding) (n : Net) : Type 0 where
  pub net : NetOf u n
  pub formed : IsWellFormed n
  pub indexed : IsIndexed n
  pub kinds : AreOfKinds n
  pub plain : ArePlain n
  pub inputs : input_columns (net_labelled n) ≡ input_columns (labelled u)
  pub ends : (rows : List TableRow) (fault : Option (ℤ × List ℕ)) (text : List ℕ) → Ends (net_labelled n) rows fault text → Ends (labelled u) rows fault text

-- The model breaks no rule, and this is its net.
pub record IsNetOf (w : Model) (n : Net) : Type 0 where
  pub expansion : Unfolding
  pub expanded : IsExpanded w expansion
  pub accepted : Accepted (network expansion)
  pub stands : StandsFor expansion n

-- The sequence breaks no rule, and this is its net.
pub record HasNet (contents : Contents) (s : Sequence) (n : Net) : Type 0 where
  pub model : Model
  pub read : IsRead contents s model
  pub net_is : IsNetOf model n

-- ---- how the making of a plan stops

-- The refusal names the rule that the sequence breaks first, and the line and the column of its spot.
abbrev pub Refuses : Contents → Sequence → Refusal → Type 0
Refuses contents s r = Breaks contents s r.rule r.spot × IsAtSpot s.models contents r.spot r.line r.column

-- The models were begun in turn, and the stop has its cause.
pub record Halts (contents : Contents) (s : Sequence) (before now : ℕ) (rose : Type 0) (stop : Stop) : Type 0 where
  pub count : ℕ
  pub begun : now ≡ before + count
  pub turn : InTurn contents s.models count
  pub cause : Stops rose (Refuses contents s) stop
