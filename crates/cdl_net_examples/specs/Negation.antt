-- The net of a block with a Boolean input `u`, a Boolean output `y` and a part `n` of the kind Logical.Not, where `u` is joined to `n.u` and `n.y` to `y`.
use Rattle.std.specs.Prelude.{[], ◌∷◌}
use Rattle.cdl_connect.specs.declared.net.Net.{Net}
use Rattle.cdl_net_examples.specs.Elements.{input, inverter, output, root, wire}

abbrev pub negation : Net
negation = record {
  instances = root 2 ∷ inverter "#n" 2 ∷ [];
  elements = input 0 "u" ∷ output 0 "y" ∷ input 1 "u" ∷ output 1 "y" ∷ [];
  wires = wire 0 2 ∷ wire 3 1 ∷ [];
}

-- the same, but one wire ends at an element that the net does not have
abbrev pub with_a_wire_to_nowhere : Net
with_a_wire_to_nowhere = record {
  instances = negation.instances;
  elements = negation.elements;
  wires = wire 0 2 ∷ wire 4 1 ∷ [];
}

-- the same, but the path of the part ends with a point
abbrev pub with_a_point : Net
with_a_point = record {
  instances = root 2 ∷ inverter "#n." 2 ∷ [];
  elements = negation.elements;
  wires = negation.wires;
}

-- the same, but the part is the second of an array that has no first
abbrev pub with_a_gap : Net
with_a_gap = record {
  instances = root 2 ∷ inverter "#n[2]" 2 ∷ [];
  elements = negation.elements;
  wires = negation.wires;
}
