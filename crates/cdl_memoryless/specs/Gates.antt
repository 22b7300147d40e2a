-- What the gates compute.
use Rattle.std.specs.Prelude.{Bool}
use Rattle.cdl_values.specs.History.{Meaning}
use Rattle.cdl_kinds.specs.Meaning.Gates.{both, either, not_both, neither, just_one, all_on, any_on}
use Rattle.cdl_memoryless.specs.declared.gates.GateOp.{GateOp}
use Rattle.cdl_memoryless.specs.declared.gates.GateOp.TheVariants.{And, Or, Nand, Nor, Xor}
use Rattle.cdl_memoryless.specs.declared.gates.MultiGateOp.{MultiGateOp}
use Rattle.cdl_memoryless.specs.declared.gates.MultiGateOp.TheVariants.{All, Any}

-- the function of a gate of two Booleans
abbrev pub gate_function : GateOp → Bool → Bool → Bool
gate_function And = both
gate_function Or = either
gate_function Nand = not_both
gate_function Nor = neither
gate_function Xor = just_one

-- what a gate of many Booleans means
abbrev pub multi_gate : MultiGateOp → Meaning
multi_gate All = all_on
multi_gate Any = any_on
