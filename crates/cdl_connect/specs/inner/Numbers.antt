-- The numbers of rules, and the fault of a rule at a place.
use Rattle.std.specs.Prelude.{ℕ, ◌==◌, List, count_by}
use Rattle.cdl_source.specs.declared.rules.TheConstants.{TWO_SOURCES_OR_SINKS, TYPES_DIFFER, MORE_THAN_ONE_SOURCE, NO_SOURCE, UNITS_DIFFER}
use Rattle.cdl_network.specs.Rules.{sink_of}
use Rattle.cdl_connect.specs.declared.net.Net.{Net}
use Rattle.cdl_connect.specs.declared.net.RawWire.{RawWire}
use Rattle.cdl_connect.specs.declared.faults.WireFault.{WireFault}
use Rattle.cdl_connect.specs.declared.faults.WireFault.TheVariants as wires
use Rattle.cdl_connect.specs.declared.faults.SinkFault.{SinkFault}
use Rattle.cdl_connect.specs.declared.faults.SinkFault.TheVariants as sinks
use Rattle.cdl_connect.specs.declared.faults.NetFault.{NetFault}
use Rattle.cdl_connect.specs.declared.faults.NetFault.TheVariants as nets
use Rattle.cdl_connect.specs.Nets.{network_of, wire_in}

abbrev pub wire_rule : WireFault → ℕ
wire_rule wires.SameSide = TWO_SOURCES_OR_SINKS
wire_rule wires.TypesDiffer = TYPES_DIFFER
wire_rule wires.UnitsDiffer = UNITS_DIFFER

abbrev pub sink_rule : SinkFault → ℕ
sink_rule sinks.ManySources = MORE_THAN_ONE_SOURCE
sink_rule sinks.NoSource = NO_SOURCE

abbrev pub fault_at_wire : WireFault → ℕ → NetFault
fault_at_wire wires.SameSide k = nets.SameSide k
fault_at_wire wires.TypesDiffer k = nets.TypesDiffer k
fault_at_wire wires.UnitsDiffer k = nets.UnitsDiffer k

abbrev pub fault_at_element : SinkFault → ℕ → NetFault
fault_at_element sinks.ManySources x = nets.ManySources x
fault_at_element sinks.NoSource x = nets.NoSource x

-- how many of these wires end at an element
abbrev pub endings : Net → List RawWire → ℕ → ℕ
endings n ws x = count_by (λ w. sink_of (network_of n) (wire_in w) == x) ws
