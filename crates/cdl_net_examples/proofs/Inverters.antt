-- A part of the kind Logical.Not has the ports `u` and `y`.
use Rattle.std.proofs.Common.{ℕ, ◌+◌, refl, []}
use Prim.Native.String.{String}
use Rattle.cdl_kinds.specs.declared.kind.Kind.TheVariants.{LogicalNot}
use Rattle.cdl_kinds.specs.Ports.{port_at}
use Rattle.cdl_connect.specs.declared.net.Net.{Net}
use Rattle.cdl_connect.specs.Nets.{element}
use Rattle.cdl_connect.specs.Paths.{none}
use Rattle.cdl_connect.specs.WellFormed.{HasPorts, IsPort}
use Rattle.cdl_net_examples.specs.Elements.{input, inverter, output}
use Rattle.cdl_net_examples.proofs.Tests.{each_below}

pub u_port : (i : ℕ) → IsPort (port_at LogicalNot [] 0) (input i "u")
u_port i = record { value_type = refl; input = refl; index = []; spelled = none; name = refl }

pub y_port : (i : ℕ) → IsPort (port_at LogicalNot [] 1) (output i "y")
y_port i = record { value_type = refl; input = refl; index = []; spelled = none; name = refl }

pub inverter_ports : (n : Net) (path : String) (first : ℕ) → IsPort (port_at LogicalNot [] 0) (element n (first + 0)) → IsPort (port_at LogicalNot [] 1) (element n (first + 1)) → HasPorts n (inverter path first) LogicalNot []
inverter_ports n path first u y = record {
  keeps = record { fits = record { rows = tt }; holds = refl };
  count = refl;
  each = each_below 2 (λ j. IsPort (port_at LogicalNot [] j) (element n (first + j))) (u, (y, tt));
}
