-- The network of a model: the names of its instances are their paths, those of its elements a path, a name and indices.
use Rattle.std.specs.Prelude.{ℕ, ◌&&◌, Bool, true, false, cond, List, [], ◌∷◌, map, Option, Some, None}
use Rattle.std.specs.Str.{bytes_eq}
use Rattle.cdl_values.specs.declared.value.ValueType.{ValueType}
use Rattle.cdl_values.specs.declared.value.ValueType.TheVariants.{Boolean}
use Rattle.cdl_values.specs.History.{Meaning}
use Rattle.cdl_kinds.specs.Meanings.{meaning}
use Rattle.cdl_kinds.specs.StateWords.{state_words}
use Rattle.cdl_kinds.specs.Table.{row}
use Rattle.cdl_network.specs.Network.{Network}
use Rattle.cdl_paths.specs.declared.path.Step.{Step}
use Rattle.cdl_walk.specs.declared.walked.Content.{Content}
use Rattle.cdl_walk.specs.declared.walked.Content.TheVariants.{Block, Elementary}
use Rattle.cdl_walk.specs.declared.walked.Point.{Point}
use Rattle.cdl_walk.specs.Events.{outer, same_steps}
use Rattle.cdl_walk.specs.Instances.{Seen, Owned}
use Rattle.cdl_model.specs.Names.{ElementName}
use Rattle.cdl_model.specs.Parts.{Unfolding}

abbrev pub name_of : Owned → ElementName
name_of x = record { path = x.path; name = x.point.name; indices = x.point.indices }

abbrev pub same_name : ElementName → ElementName → Bool
same_name x y = same_steps x.path y.path && (bytes_eq x.name y.name && bytes_eq x.indices y.indices)

abbrev pub paths : List Seen → List (List Step)
paths ss = map (λ s. s.path) ss

abbrev pub names : List Owned → List ElementName
names xs = map name_of xs

-- the path without its last step; the root is a part of none
abbrev pub parent_path : List Step → Option (List Step)
parent_path [] = None
parent_path (s ∷ rest) = Some (outer (s ∷ rest))

-- ---- what an instance is

abbrev pub content_at : List Seen → List Step → Option Content
content_at [] p = None
content_at (s ∷ ss) p = cond (same_steps s.path p) (Some s.content) (content_at ss p)

abbrev pub is_elementary : Option Content → Bool
is_elementary None = false
is_elementary (Some (Block c)) = false
is_elementary (Some (Elementary k v)) = true

abbrev pub meaning_of : Option Content → Meaning
meaning_of None = λ h now x. None
meaning_of (Some (Block c)) = λ h now x. None
meaning_of (Some (Elementary k v)) = meaning k v

abbrev pub words_of : Option Content → ℕ
words_of None = 0
words_of (Some (Block c)) = 0
words_of (Some (Elementary k v)) = state_words k v

-- its outputs rest on its inputs at once
abbrev pub is_direct : Option Content → Bool
is_direct None = false
is_direct (Some (Block c)) = false
is_direct (Some (Elementary k v)) = (row k).direct

-- ---- what an element is

abbrev pub point_at : List Owned → ElementName → Option Point
point_at [] x = None
point_at (y ∷ ys) x = cond (same_name (name_of y) x) (Some y.point) (point_at ys x)

abbrev pub is_input : Option Point → Bool
is_input None = false
is_input (Some p) = p.input

abbrev pub type_of : Option Point → ValueType
type_of None = Boolean
type_of (Some p) = p.value_type

abbrev pub unit_of : Option Point → List ℕ
unit_of None = []
unit_of (Some p) = p.unit

abbrev pub network : Unfolding → Network (List Step) ElementName
network u = record {
  same_instance = same_steps;
  same_element = same_name;
  instances = paths u.instances;
  elements = names u.elements;
  wires = u.wires;
  parent = parent_path;
  elementary = λ p. is_elementary (content_at u.instances p);
  owner = λ x. x.path;
  input = λ x. is_input (point_at u.elements x);
  value_type = λ x. type_of (point_at u.elements x);
  unit = λ x. unit_of (point_at u.elements x);
  direct = λ x. is_direct (content_at u.instances x.path);
  meaning = λ p. meaning_of (content_at u.instances p);
  state_words = λ p. words_of (content_at u.instances p);
}
