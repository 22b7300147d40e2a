-- The network of a net: the names of its instances and elements are their places.
use Rattle.std.specs.Prelude.{ℕ, ◌-◌, ◌==◌, Bool, true, false, [], map, length, Option, Some, None, slice_get, slice_index_or}
use Rattle.cdl_values.specs.declared.value.ValueType.TheVariants.{Boolean}
use Rattle.cdl_values.specs.History.{Meaning}
use Rattle.cdl_kinds.specs.Meanings.{meaning}
use Rattle.cdl_kinds.specs.Ports.{inputs}
use Rattle.cdl_kinds.specs.StateWords.{state_words}
use Rattle.cdl_network.specs.Lists.{numbers}
use Rattle.cdl_network.specs.Network.{Network, Wire}
use Rattle.cdl_connect.specs.declared.net.Net.{Net}
use Rattle.cdl_connect.specs.declared.net.NetInstance.{NetInstance}
use Rattle.cdl_connect.specs.declared.net.NetElement.{NetElement}
use Rattle.cdl_connect.specs.declared.net.RawWire.{RawWire}
use Rattle.cdl_connect.specs.declared.net.Body.{Body}
use Rattle.cdl_connect.specs.declared.net.Body.TheVariants.{Composite, Elementary}

abbrev pub parent_of : Option NetInstance → Option ℕ
parent_of None = None
parent_of (Some i) = i.parent

abbrev pub is_block : Body → Bool
is_block Composite = false
is_block (Elementary k p) = true

abbrev pub is_elementary : Option NetInstance → Bool
is_elementary None = false
is_elementary (Some i) = is_block i.body

-- the meaning of a kind with its parameters
abbrev pub meaning_of : Body → Meaning
meaning_of Composite = λ h now x. None
meaning_of (Elementary k p) = meaning k p

abbrev pub meaning_at : Option NetInstance → Meaning
meaning_at None = λ h now x. None
meaning_at (Some i) = meaning_of i.body

abbrev pub words_of : Body → ℕ
words_of Composite = 0
words_of (Elementary k p) = state_words k p

abbrev pub words_at : Option NetInstance → ℕ
words_at None = 0
words_at (Some i) = words_of i.body

-- the port of that number is a direct input of the kind
abbrev pub is_direct_port : Body → ℕ → Bool
is_direct_port Composite j = false
is_direct_port (Elementary k p) j = (inputs k p).direct j

-- the element of that number is a direct input of this instance
abbrev pub is_direct_at : Option NetInstance → ℕ → Bool
is_direct_at None x = false
is_direct_at (Some i) x = is_direct_port i.body (x - i.first)

-- what stands for an element where there is none
abbrev pub no_element : NetElement
no_element = record { instance = 0; name = []; value_type = Boolean; unit = []; input = false }

-- the element of that number
abbrev pub element : Net → ℕ → NetElement
element n x = slice_index_or n.elements x no_element

abbrev pub wire_in : RawWire → Wire ℕ ℕ
wire_in w = record { scope = w.scope; left = w.left; right = w.right }

abbrev pub network_of : Net → Network ℕ ℕ
network_of n = record {
  same_instance = λ i j. i == j;
  same_element = λ x y. x == y;
  instances = numbers 0 (length n.instances);
  elements = numbers 0 (length n.elements);
  wires = map wire_in n.wires;
  parent = λ i. parent_of (slice_get n.instances i);
  elementary = λ i. is_elementary (slice_get n.instances i);
  owner = λ x. (element n x).instance;
  input = λ x. (element n x).input;
  value_type = λ x. (element n x).value_type;
  unit = λ x. (element n x).unit;
  direct = λ x. is_direct_at (slice_get n.instances (element n x).instance) x;
  meaning = λ i. meaning_at (slice_get n.instances i);
  state_words = λ i. words_at (slice_get n.instances i);
}
