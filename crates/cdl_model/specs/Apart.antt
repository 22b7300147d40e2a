-- What holds of a model whose names tell, and of its wires.
use Rattle.std.specs.Prelude.{ℕ, ◌≤◌, ◌≡◌, ◌⊎◌, false, List, length, Some, slice_get}
use Rattle.cdl_source.specs.declared.limits.TheConstants.{MOST_WIRES}
use Rattle.cdl_network.specs.Lists.{In, Apart, number}
use Rattle.cdl_network.specs.Network.{Wire}
use Rattle.cdl_paths.specs.declared.path.Step.{Step}
use Rattle.cdl_params.specs.Kept.{Model}
use Rattle.cdl_scopes.specs.Classes.{declared}
use Rattle.cdl_scopes.specs.Lookup.{item_name}
use Rattle.cdl_tree.specs.declared.class.Item.{Item}
use Rattle.cdl_walk.specs.Events.{same_steps}
use Rattle.cdl_items.specs.Roles.{items_of}
use Rattle.cdl_model.specs.Names.{ElementName}
use Rattle.cdl_model.specs.Parts.{Unfolding, AreParts}
use Rattle.cdl_model.specs.Networks.{paths, names, parent_path, content_at, is_elementary}

-- no name is declared twice in a class
pub record NamesApart (w : Model) : Type 0 where
  pub items : (c i j : ℕ) (x y : Item) → slice_get (items_of (declared w.files) c) i ≡ Some x → slice_get (items_of (declared w.files) c) j ≡ Some y → item_name x ≡ item_name y → i ≡ j

-- each instance and each element stands once, behind what it is of
pub record AreApart (u : Unfolding) : Type 0 where
  pub instances : Apart (paths u.instances)
  pub elements : Apart (names u.elements)
  pub owners : (x : ElementName) → In x (names u.elements) → In x.path (paths u.instances)
  pub parents : (p q : List Step) → In p (paths u.instances) → parent_path p ≡ Some q → In q (paths u.instances)

-- wires stand in instances of declared blocks, and join elements
pub record AreWires (u : Unfolding) : Type 0 where
  pub scope : (v : Wire (List Step) ElementName) → In v u.wires → In v.scope (paths u.instances)
  pub composite : (v : Wire (List Step) ElementName) → In v u.wires → is_elementary (content_at u.instances v.scope) ≡ false
  pub left : (v : Wire (List Step) ElementName) → In v u.wires → In v.left (names u.elements)
  pub right : (v : Wire (List Step) ElementName) → In v u.wires → In v.right (names u.elements)

-- what is known of a model and of its lists
pub record IsUnfolded (w : Model) (u : Unfolding) : Type 0 where
  pub names : NamesApart w
  pub parts : AreParts w u
  pub wires : AreWires u

-- the element is one of the instance, or of a part of it
abbrev pub IsNear : List Step → ElementName → Type 0
IsNear p x = (x.path ≡ p) ⊎ (parent_path x.path ≡ Some p)

-- wires stand by scope, join what is near, and aren't too many
pub record AreNetWires (u : Unfolding) : Type 0 where
  pub wires : AreWires u
  pub by_scope : (i j : ℕ) (v w : Wire (List Step) ElementName) → i ≤ j → slice_get u.wires i ≡ Some v → slice_get u.wires j ≡ Some w → number same_steps (paths u.instances) v.scope ≤ number same_steps (paths u.instances) w.scope
  pub left : (v : Wire (List Step) ElementName) → In v u.wires → IsNear v.scope v.left
  pub right : (v : Wire (List Step) ElementName) → In v u.wires → IsNear v.scope v.right
  pub few : length u.wires ≤ MOST_WIRES
