-- What is known on the way from a model to its net.
use Rattle.std.specs.Prelude.{ℕ, ◌≤◌, ◌≡◌, List, length, IfOk}
use Rattle.std.specs.List.Sorted.{IsNonDecreasingBy, IsStableByKey}
use Rattle.std.specs.Ordering.{nat_cmp}
use Rattle.cdl_source.specs.declared.limits.TheConstants.{MOST_ELEMENTS, MOST_INSTANCES}
use Rattle.cdl_connect.specs.declared.net.RawWire.{RawWire}
use Rattle.cdl_params.specs.Kept.{Model}
use Rattle.cdl_paths.specs.declared.path.Step.{Step}
use Rattle.cdl_stations.specs.FirstBroken.{IsBroken, NoneBroken}
use Rattle.cdl_walk.specs.declared.walked.Walked.{Walked}
use Rattle.cdl_walk.specs.Instances.{AreAll}
use Rattle.cdl_walk.specs.Judges.{NoneFails}
use Rattle.cdl_walk.specs.Stations as station
use Rattle.cdl_walk.specs.Worth.{unit}
use Rattle.cdl_worth.specs.Texts.{HasUnits}
use Rattle.cdl_statements.specs.Directory.{directory}
use Rattle.cdl_statements.specs.Events as event
use Rattle.cdl_statements.specs.Judges.{StandForAll}
use Rattle.cdl_statements.specs.Stations as statement
use Rattle.cdl_expand.specs.Expanded.{HasInstances}

-- Units of the model are of UTF-8, and have at most 64 bytes.
abbrev pub HaveUnits : Model → Type 0
HaveUnits w = (p : List Step) (x : List ℕ) → IfOk (unit w p x) HasUnits

-- No rule of instances is broken, and this is what the walk found, with the elements by instance.
pub record IsOrdered (w : Model) (m : Walked) : Type 0 where
  pub unbroken : HasInstances w
  pub fine : NoneFails (station.InModel w)
  pub found : Walked
  pub all : AreAll w found
  pub instances : m.instances ≡ found.instances
  pub sorted : IsNonDecreasingBy (λ e. e.instance) m.elements
  pub stable : IsStableByKey (λ e. e.instance) nat_cmp found.elements m.elements
  pub few_instances : length m.instances ≤ MOST_INSTANCES
  pub few_elements : length m.elements ≤ MOST_ELEMENTS

-- No rule of statements is broken, and these wires between numbers stand for all wires.
pub record AreJoined (w : Model) (m : Walked) (ws : List RawWire) : Type 0 where
  pub unbroken : NoneBroken (IsBroken event.Bad (statement.InModel w m.instances))
  pub wires : StandForAll (statement.InModel w m.instances) (directory m.instances m.elements) ws
