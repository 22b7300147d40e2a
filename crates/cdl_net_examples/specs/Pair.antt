-- The net of a block with Boolean inputs `u[2]`, Boolean outputs `y[2]` and parts `n[2]` of the kind Logical.Not, where `u[i]` is joined to `n[i].u` and `n[i].y` to `y[i]`.
use Rattle.std.specs.Prelude.{[], ◌∷◌}
use Rattle.cdl_connect.specs.declared.net.Net.{Net}
use Rattle.cdl_net_examples.specs.Elements.{input, inverter, output, root, wire}

abbrev pub pair : Net
pair = record {
  instances = root 4 ∷ inverter "#n[1]" 4 ∷ inverter "#n[2]" 6 ∷ [];
  elements =
      input 0 "u[1]" ∷ input 0 "u[2]" ∷ output 0 "y[1]" ∷ output 0 "y[2]"
      ∷ input 1 "u" ∷ output 1 "y"
      ∷ input 2 "u" ∷ output 2 "y"
      ∷ [];
  wires = wire 0 4 ∷ wire 1 6 ∷ wire 5 2 ∷ wire 7 3 ∷ [];
}
