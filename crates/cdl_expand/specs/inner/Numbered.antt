-- The instances and elements of a net, by the numbers of the walk.
use Rattle.std.specs.Prelude.{ℕ, suc, ◌<◌, ◌≤◌, ◌≡◌, ◌==◌, nat_lt, List, [], ◌∷◌, map, length, slice_index_or}
use Rattle.cdl_connect.specs.declared.net.Net.{Net}
use Rattle.cdl_connect.specs.declared.net.NetElement.{NetElement}
use Rattle.cdl_connect.specs.declared.net.NetInstance.{NetInstance}
use Rattle.cdl_connect.specs.declared.net.RawWire.{RawWire}
use Rattle.cdl_network.specs.Lists.{count}
use Rattle.cdl_walk.specs.declared.walked.Element.{Element}
use Rattle.cdl_walk.specs.declared.walked.Instance.{Instance}
use Rattle.cdl_walk.specs.declared.walked.Walked.{Walked}
use Rattle.cdl_walk.specs.Texts.{path_text, step_text}
use Rattle.cdl_model.specs.NetOf.{body_of}

abbrev pub with_window : Instance → ℕ → ℕ → NetInstance
with_window x first size = record { path = path_text x.path.steps; parent = x.parent; body = body_of x.content; first = first; count = size }

-- the instance of that number: its elements stand behind those of smaller numbers
abbrev pub at_number : List Element → ℕ → Instance → NetInstance
at_number es i x = with_window x (count (λ e. nat_lt e.instance i) es) (count (λ e. e.instance == i) es)

-- these, from that number on
abbrev pub at_numbers : List Element → ℕ → List Instance → List NetInstance
at_numbers es i [] = []
at_numbers es i (x ∷ xs) = at_number es i x ∷ at_numbers es (suc i) xs

abbrev pub numbered : Element → NetElement
numbered e = record {
  instance = e.instance;
  name = step_text (record { name = e.point.name; indices = e.point.indices });
  value_type = e.point.value_type;
  unit = e.point.unit;
  input = e.point.input;
}

-- the elements of instances of smaller numbers stand before this place, and no others
pub record IsBoundary (es : List Element) (i k : ℕ) : Type 0 where
  pub within : k ≤ length es
  pub before : (x : ℕ) (d : Element) → x < k → (slice_index_or es x d).instance < i
  pub behind : (x : ℕ) (d : Element) → k ≤ x → x < length es → i ≤ (slice_index_or es x d).instance

-- the net of these lists, where a number is a place
pub record IsNumbered (m : Walked) (ws : List RawWire) (n : Net) : Type 0 where
  pub instances : n.instances ≡ at_numbers m.elements 0 m.instances
  pub elements : n.elements ≡ map numbered m.elements
  pub wires : n.wires ≡ ws
