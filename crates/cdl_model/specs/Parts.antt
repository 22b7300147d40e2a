-- A model unfolded: its instances in preorder, its elements by instance, and its wires.
use Rattle.std.specs.Prelude.{◌≡◌, List, [], ◌∷◌, ◌++◌, filter}
use Rattle.cdl_paths.specs.declared.path.Step.{Step}
use Rattle.cdl_params.specs.Kept.{Model}
use Rattle.cdl_stations.specs.Keys.{Key, Lists}
use Rattle.cdl_walk.specs.Events.{same_steps}
use Rattle.cdl_walk.specs.Instances.{Thing, IsThing, Seen, Owned, instances_in, elements_in}
use Rattle.cdl_walk.specs.Stations.{the_root}
use Rattle.cdl_network.specs.Network.{Wire}
use Rattle.cdl_model.specs.Names.{ElementName}

pub record Unfolding : Type 0 where
  pub instances : List Seen
  pub elements : List Owned
  pub wires : List (Wire (List Step) ElementName)

-- the elements of the instance at a path, in their order
abbrev pub own : List Owned → List Step → List Owned
own xs p = filter (λ x. same_steps x.path p) xs

-- the elements of these instances, those of the first one first
abbrev pub by_instance : List Seen → List Owned → List Owned
by_instance [] xs = []
by_instance (s ∷ ss) xs = own xs s.path ++ by_instance ss xs

-- the instances and the elements are all that stand in the model
pub record AreParts (w : Model) (u : Unfolding) : Type 0 where
  pub things : List (Key × Thing)
  pub lists : Lists (IsThing w [] (the_root w)) things
  pub instances : u.instances ≡ instances_in things
  pub elements : u.elements ≡ by_instance (instances_in things) (elements_in things)
