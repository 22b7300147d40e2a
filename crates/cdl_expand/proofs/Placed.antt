-- What the walk found, as a model unfolded.
use Rattle.std.proofs.Common.{ℕ, ◌<◌, ◌≡◌, List, map, length, Some, slice_get}
use Rattle.cdl_network.specs.Lists.{In, Apart}
use Rattle.cdl_network.specs.Network.{Wire}
use Rattle.cdl_paths.specs.declared.path.Step.{Step}
use Rattle.cdl_walk.specs.declared.walked.Element.{Element}
use Rattle.cdl_walk.specs.declared.walked.Instance.{Instance}
use Rattle.cdl_walk.specs.declared.walked.Walked.{Walked}
use Rattle.cdl_walk.specs.Instances.{Seen, Owned, seen_instance, seen_element, IsPartOf}
use Rattle.cdl_model.specs.Names.{ElementName}
use Rattle.cdl_model.specs.Networks.{paths}
use Rattle.cdl_model.specs.Parts.{Unfolding, by_instance}

abbrev pub instances_seen : Walked → List Seen
instances_seen m = map seen_instance m.instances

abbrev pub elements_seen : Walked → List Owned
elements_seen m = map (seen_element m.instances) m.elements

-- with these wires
abbrev pub unfolded : Walked → List (Wire (List Step) ElementName) → Unfolding
unfolded m ws = record { instances = instances_seen m; elements = by_instance (instances_seen m) (elements_seen m); wires = ws }

-- each instance stands once, behind the one that it is a part of; each element is one of an instance in the list
pub record IsPlaced (m : Walked) : Type 0 where
  pub once : Apart (paths (instances_seen m))
  pub parents : (i : ℕ) (x : Instance) → slice_get m.instances i ≡ Some x → IsPartOf m.instances i x.path.steps x.parent
  pub owners : (e : Element) → In e m.elements → e.instance < length m.instances
