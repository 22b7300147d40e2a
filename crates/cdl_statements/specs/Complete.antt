-- That the elements which occurrences join stand in a directory.
use Rattle.std.specs.Prelude.{ℕ, ◌≡◌, List, [], ◌∷◌, Some, slice_get}
use Rattle.cdl_tree.specs.declared.class.Connect.{Connect}
use Rattle.cdl_classes.specs.declared.found.ClassId.{ClassId}
use Rattle.cdl_paths.specs.declared.path.Local.{Local}
use Rattle.cdl_paths.specs.declared.path.Step.{Step}
use Rattle.cdl_params.specs.Kept.{Model}
use Rattle.cdl_walk.specs.declared.walked.Content.TheVariants as content
use Rattle.cdl_stations.specs.Keys.{Key, In}
use Rattle.cdl_walk.specs.declared.walked.Element.{Element}
use Rattle.cdl_walk.specs.declared.walked.Instance.{Instance}
use Rattle.cdl_walk.specs.declared.walked.Walked.{Walked}
use Rattle.cdl_walk.specs.Events.{Fails}
use Rattle.cdl_walk.specs.Instances.{AreAll}
use Rattle.cdl_walk.specs.Stations.{InModel}
use Rattle.cdl_model.specs.Names.{ElementName}
use Rattle.cdl_joins.specs.declared.sides.Side.{Side}
use Rattle.cdl_joins.specs.declared.verdicts.Verdict.TheVariants.{Joins}
use Rattle.cdl_joins.specs.Sides.{elements}
use Rattle.cdl_joins.specs.Verdicts.{verdict}

-- the name has a number
pub record Stands (names : List ElementName) (x : ElementName) : Type 0 where
  pub number : ℕ
  pub at : slice_get names number ≡ Some x

abbrev pub AllStand : List ElementName → List ElementName → Type 0
AllStand names [] = Unit {0}
AllStand names (x ∷ xs) = Stands names x × AllStand names xs

-- so have all that occurrences join in an instance of this class
pub record JoinStanding (w : Model) (names : List ElementName) (p : List Step) (c : ClassId) : Type 0 where
  pub left : (locals : List Local) (x : Connect) (l r : Side) → verdict w p c locals x ≡ Joins l r → AllStand names (elements l)
  pub right : (locals : List Local) (x : Connect) (l r : Side) → verdict w p c locals x ≡ Joins l r → AllStand names (elements r)

-- The instances and elements are those of the model: all that stand in it, where no station of the walk fails. The elements may stand in
-- another order than in the walk.
pub record IsUnfolded (w : Model) (xs : List Instance) (es : List Element) : Type 0 where
  pub found : Walked
  pub all : AreAll w found
  pub fine : (k : Key) (q : List Step) (r : ℕ) → InModel w k (Fails q r) → ⊥
  pub instances : xs ≡ found.instances
  pub elements : (e : Element) → In e found.elements → In e es

pub record AllJoinStanding (w : Model) (xs : List Instance) (names : List ElementName) : Type 0 where
  pub each : (i : ℕ) (x : Instance) (c : ClassId) → slice_get xs i ≡ Some x → x.content ≡ content.Block c → JoinStanding w names x.path.steps c
