-- The types of a net's root inputs, its root outputs, and its elementary instances.
use Rattle.std.specs.Prelude.{ℕ, ◌≡◌, List, length, map}
use Rattle.cdl_values.specs.declared.value.ValueType.{ValueType}
use Rattle.cdl_network.specs.Dependence.{root_inputs}
use Rattle.cdl_connect.specs.declared.net.Net.{Net}
use Rattle.cdl_connect.specs.Nets.{network_of}
use Rattle.cdl_run.specs.Words.{elementary_below, root_outputs}

pub record IsFramed (n : Net) (rows : List ValueType) (outputs blocks : List ℕ) : Type 0 where
  pub are_rows : rows ≡ map (network_of n).value_type (root_inputs (network_of n))
  pub are_outputs : outputs ≡ root_outputs n
  pub are_blocks : blocks ≡ elementary_below n (length n.instances)
