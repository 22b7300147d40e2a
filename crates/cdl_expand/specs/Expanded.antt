-- A model expanded: its instances, elements and wires, and its net; or the rule of instances or statements that it breaks first.
use Rattle.std.specs.Prelude.{ℕ, ◌≡◌, List, [], map}
use Rattle.cdl_source.specs.declared.place.Place.{Place}
use Rattle.cdl_connect.specs.declared.net.Net.{Net}
use Rattle.cdl_connect.specs.WellFormed.{IsIndexed, IsWellFormed}
use Rattle.cdl_params.specs.Kept.{Model}
use Rattle.cdl_paths.specs.declared.path.Step.{Step}
use Rattle.cdl_stations.specs.FirstBroken.{First, IsBroken, NoneBroken}
use Rattle.cdl_stations.specs.Keys.{Key, Lists}
use Rattle.cdl_walk.specs.declared.walked.Instance.{Instance}
use Rattle.cdl_walk.specs.Events as walk
use Rattle.cdl_walk.specs.Instances.{Thing, IsThing, instances_in, seen_instance}
use Rattle.cdl_walk.specs.Stations as station
use Rattle.cdl_walk.specs.Stations.{the_root}
use Rattle.cdl_walk.specs.Texts.{path_text}
use Rattle.cdl_model.specs.Apart.{IsUnfolded}
use Rattle.cdl_model.specs.NetOf.{NetOf}
use Rattle.cdl_model.specs.Parts.{Unfolding, AreParts}
use Rattle.cdl_statements.specs.Events as event
use Rattle.cdl_statements.specs.Judges.{AreAllWires}
use Rattle.cdl_statements.specs.Stations as statement
use Rattle.cdl_expand.specs.declared.fault.ExpandFault.{ExpandFault}
use Rattle.cdl_expand.specs.declared.fault.ExpandFault.TheVariants as fault

-- ---- rules of instances: C20 to C32 and C38

-- the model breaks none
abbrev pub HasInstances : Model → Type 0
HasInstances w = NoneBroken (IsBroken walk.Bad (station.InModel w))

-- it breaks this one first, at this path
abbrev pub BreaksInstance : Model → ℕ → List Step → Type 0
BreaksInstance w rule path = First (IsBroken walk.Bad (station.InModel w)) (path, rule)

-- ---- rules of statements: C39, C40, C41, C42 and C47

-- these are the instances of the model, in preorder
pub record AreInstances (w : Model) (xs : List Instance) : Type 0 where
  pub things : List (Key × Thing)
  pub lists : Lists (IsThing w [] (the_root w)) things
  pub seen : map seen_instance xs ≡ instances_in things

-- the model breaks no rule of instances, and this rule of statements first, in the instance of this path, at this place
pub record BreaksStatement (w : Model) (rule : ℕ) (path : List Step) (place : Place) : Type 0 where
  pub unbroken : HasInstances w
  pub instances : List Instance
  pub are : AreInstances w instances
  pub first : First (IsBroken event.Bad (statement.InModel w instances)) (record { path = path; place = place }, rule)

-- ---- the model expanded

-- No rule of instances or statements is broken, and these are all instances, elements and wires of the model: the instances in preorder,
-- the elements by instance, the wires in the order of their statements.
pub record IsExpanded (w : Model) (u : Unfolding) : Type 0 where
  pub unbroken : HasInstances w
  pub parts : AreParts w u
  pub instances : List Instance
  pub seen : map seen_instance instances ≡ u.instances
  pub statements : NoneBroken (IsBroken event.Bad (statement.InModel w instances))
  pub wires : AreAllWires (statement.InModel w instances) u.wires

-- The net is that of the model, which breaks no rule of instances or statements, and it is well formed.
pub record IsNetOfModel (w : Model) (n : Net) : Type 0 where
  pub expansion : Unfolding
  pub expanded : IsExpanded w expansion
  pub unfolded : IsUnfolded w expansion
  pub net : NetOf expansion n
  pub indexed : IsIndexed n
  pub formed : IsWellFormed n

-- The fault is the first broken rule; want of memory is free.
abbrev pub Refuses : Model → ExpandFault → Type 0
Refuses w (fault.Instance rule path) = (p : List Step) × (path ≡ path_text p) × BreaksInstance w rule p
Refuses w (fault.Statement rule path place) = (p : List Step) × (path ≡ path_text p) × BreaksStatement w rule p place
Refuses w fault.OutOfMemory = Unit {0}
