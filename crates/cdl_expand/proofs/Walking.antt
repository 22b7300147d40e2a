-- What the walk found is a model unfolded.
use Rattle.std.proofs.Common.{List, [], ◌∷◌, ap, ◌∙◌, inl, inr}
use Rattle.cdl_network.specs.Lists.{In}
use Rattle.cdl_network.specs.Network.{Wire}
use Rattle.cdl_params.specs.Kept.{Model}
use Rattle.cdl_paths.specs.declared.path.Step.{Step}
use Rattle.cdl_stations.specs.Keys.{In as InKeys}
use Rattle.cdl_walk.specs.declared.walked.Walked.{Walked}
use Rattle.cdl_walk.specs.Instances.{AreAll, Seen, Owned, elements_in}
use Rattle.cdl_model.specs.Apart.{AreApart}
use Rattle.cdl_model.specs.Names.{ElementName}
use Rattle.cdl_model.specs.Parts.{AreParts, by_instance}
use Rattle.cdl_expand.proofs.Placed.{IsPlaced, instances_seen, unfolded}

pub to_keys : {A : Type 0} (x : A) (xs : List A) → In x xs → InKeys x xs
to_keys x [] h = h
to_keys x (y ∷ xs) (inl e) = inl e
to_keys x (y ∷ xs) (inr h) = inr (to_keys x xs h)

pub of_keys : {A : Type 0} (x : A) (xs : List A) → InKeys x xs → In x xs
of_keys x [] h = h
of_keys x (y ∷ xs) (inl e) = inl e
of_keys x (y ∷ xs) (inr h) = inr (of_keys x xs h)

-- with any wires
pub parts_found : (w : Model) (m : Walked) (ws : List (Wire (List Step) ElementName)) → AreAll w m → AreParts w (unfolded m ws)
parts_found w m ws a = record {
  things = a.things;
  lists = a.lists;
  instances = a.instances;
  elements = ap (λ (os : List Owned). by_instance (instances_seen m) os) a.elements ∙ ap (λ (ss : List Seen). by_instance ss (elements_in a.things)) a.instances;
}

pub placed_found : (w : Model) (m : Walked) (ws : List (Wire (List Step) ElementName)) → AreApart (unfolded m ws) → AreAll w m → IsPlaced m
placed_found w m ws n a = record {
  once = n.instances;
  parents = λ i x e. a.parents i x e;
  owners = λ e i. a.owners e (to_keys e m.elements i);
}
