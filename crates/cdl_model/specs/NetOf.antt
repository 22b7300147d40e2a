-- The net of a model: a number for each name, which is its place.
use Rattle.std.specs.Prelude.{ℕ, ◌≡◌, nat_lt, List, map, length, option_map}
use Rattle.cdl_network.specs.Lists.{number, count}
use Rattle.cdl_network.specs.Network.{Wire}
use Rattle.cdl_connect.specs.declared.net.Net.{Net}
use Rattle.cdl_connect.specs.declared.net.NetInstance.{NetInstance}
use Rattle.cdl_connect.specs.declared.net.NetElement.{NetElement}
use Rattle.cdl_connect.specs.declared.net.RawWire.{RawWire}
use Rattle.cdl_connect.specs.declared.net.Body.{Body}
use Rattle.cdl_connect.specs.declared.net.Body.TheVariants as body
use Rattle.cdl_paths.specs.declared.path.Step.{Step}
use Rattle.cdl_walk.specs.declared.walked.Content.{Content}
use Rattle.cdl_walk.specs.declared.walked.Content.TheVariants as content
use Rattle.cdl_walk.specs.Events.{same_steps}
use Rattle.cdl_walk.specs.Instances.{Seen, Owned}
use Rattle.cdl_walk.specs.Texts.{path_text, step_text}
use Rattle.cdl_model.specs.Names.{ElementName}
use Rattle.cdl_model.specs.Parts.{Unfolding, own}
use Rattle.cdl_model.specs.Networks.{paths, names, name_of, parent_path, same_name}

abbrev pub instance_number : List Seen → List Step → ℕ
instance_number ss p = number same_steps (paths ss) p

abbrev pub element_number : List Owned → ElementName → ℕ
element_number xs x = number same_name (names xs) x

abbrev pub body_of : Content → Body
body_of (content.Block c) = body.Composite
body_of (content.Elementary k v) = body.Elementary k v

-- its elements stand behind those of all instances before it
abbrev pub net_instance : Unfolding → Seen → NetInstance
net_instance u s = record {
  path = path_text s.path;
  parent = option_map (instance_number u.instances) (parent_path s.path);
  body = body_of s.content;
  first = count (λ x. nat_lt (instance_number u.instances x.path) (instance_number u.instances s.path)) u.elements;
  count = length (own u.elements s.path);
}

-- the text of an element in its instance, such as `u[2]`
abbrev pub name_text : ElementName → List ℕ
name_text x = step_text (record { name = x.name; indices = x.indices })

abbrev pub net_element : Unfolding → Owned → NetElement
net_element u x = record {
  instance = instance_number u.instances x.path;
  name = name_text (name_of x);
  value_type = x.point.value_type;
  unit = x.point.unit;
  input = x.point.input;
}

abbrev pub net_wire : Unfolding → Wire (List Step) ElementName → RawWire
net_wire u v = record {
  scope = instance_number u.instances v.scope;
  left = element_number u.elements v.left;
  right = element_number u.elements v.right;
}

-- the lists of the net are those of the model, with numbers for names
pub record NetOf (u : Unfolding) (n : Net) : Type 0 where
  pub instances : n.instances ≡ map (net_instance u) u.instances
  pub elements : n.elements ≡ map (net_element u) u.elements
  pub wires : n.wires ≡ map (net_wire u) u.wires
