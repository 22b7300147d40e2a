-- The columns of the table and of the trace of a network.
use Rattle.std.specs.Prelude.{ℕ, ◌&&◌, Bool, not, List, map, filter}
use Rattle.cdl_network.specs.Lists.{has_some}
use Rattle.cdl_network.specs.Network.{Network}
use Rattle.cdl_network.specs.Dependence.{root_inputs}
use Rattle.cdl_connect.specs.declared.net.Net.{Net}
use Rattle.cdl_connect.specs.Nets.{element, network_of}
use Rattle.cdl_connect.specs.WellFormed.{path_of}
use Rattle.cdl_table.specs.declared.column.Column.{Column}

-- a network with the texts of its names
pub record Labelled (I E : Type 0) : Type 0 where
  pub network : Network I E
  -- an element's step, such as `u[2]`, which names its column
  pub name : E → List ℕ
  -- an instance's path
  pub path : I → List ℕ

-- a net with its texts
abbrev pub labelled : Net → Labelled ℕ ℕ
labelled n = record { network = network_of n; name = λ x. (element n x).name; path = path_of n }

-- the outputs of the root, in order
abbrev pub is_root_output : {I E : Type 0} → Network I E → E → Bool
is_root_output n x = not (n.input x) && not (has_some (n.parent (n.owner x)))

abbrev pub root_outputs : {I E : Type 0} → Network I E → List E
root_outputs n = filter (is_root_output n) n.elements

abbrev pub column_of : {I E : Type 0} → Labelled I E → E → Column
column_of s x = record { name = s.name x; value_type = s.network.value_type x }

-- the columns of a table: one for each input of the root
abbrev pub input_columns : {I E : Type 0} → Labelled I E → List Column
input_columns s = map (column_of s) (root_inputs s.network)

-- the columns of a trace: one for each output of the root
abbrev pub output_columns : {I E : Type 0} → Labelled I E → List Column
output_columns s = map (column_of s) (root_outputs s.network)
