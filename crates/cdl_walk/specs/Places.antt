-- Where the walk stands.
use Rattle.std.specs.Prelude.{ℕ, List, [], ◌∷◌, ◌++◌}
use Rattle.cdl_tree.specs.declared.class.Item.{Item}
use Rattle.cdl_scopes.specs.Lookup.{item_name}
use Rattle.cdl_classes.specs.declared.found.ClassId.{ClassId}
use Rattle.cdl_paths.specs.declared.path.Step.{Step}
use Rattle.cdl_walk.specs.declared.place.Place.{Place}
use Rattle.cdl_items.specs.Declarations.{items}

-- an instance: its path, the declarations of its steps, and the declared blocks of which the instances from the root on are
pub record Here : Type 0 where
  pub steps : List Step
  pub components : List Item
  pub classes : List ClassId

abbrev pub here : Place → Here
here p = record { steps = p.path.steps; components = items p.components.items; classes = p.classes.items }

-- the root
abbrev pub start : Here
start = record { steps = []; components = []; classes = [] }

-- the element with these indices of a component
abbrev pub entered : Here → Item → List ℕ → Here
entered h item indices = record {
  steps = h.steps ++ (record { name = item_name item; indices = indices }) ∷ [];
  components = h.components ++ item ∷ [];
  classes = h.classes;
}

-- among the items of an instance of this declared block
abbrev pub inside : Here → ClassId → Here
inside h c = record { steps = h.steps; components = h.components; classes = h.classes ++ c ∷ [] }
