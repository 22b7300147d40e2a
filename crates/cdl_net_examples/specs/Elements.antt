-- Boolean connector elements, composites, blocks of the kind Logical.Not, and wires in the root.
use Prim.Native.String.{String}
use Rattle.std.specs.Prelude.{ℕ, true, false, [], Some, None, codes}
use Rattle.cdl_values.specs.declared.value.ValueType.TheVariants.{Boolean}
use Rattle.cdl_kinds.specs.declared.kind.Kind.TheVariants.{LogicalNot}
use Rattle.cdl_connect.specs.declared.net.NetInstance.{NetInstance}
use Rattle.cdl_connect.specs.declared.net.NetElement.{NetElement}
use Rattle.cdl_connect.specs.declared.net.RawWire.{RawWire}
use Rattle.cdl_connect.specs.declared.net.Body.TheVariants.{Composite, Elementary}

-- a Boolean input of the instance of that number, and a Boolean output
abbrev pub input : ℕ → String → NetElement
input i name = record { instance = i; name = codes name; value_type = Boolean; unit = []; input = true }

abbrev pub output : ℕ → String → NetElement
output i name = record { instance = i; name = codes name; value_type = Boolean; unit = []; input = false }

-- the root, with so many elements
abbrev pub root : ℕ → NetInstance
root count = record { path = codes "#"; parent = None; body = Composite; first = 0; count = count }

-- a part of the root that is a block of the kind Logical.Not: its path, and the number of the first of its two elements
abbrev pub inverter : String → ℕ → NetInstance
inverter path first = record { path = codes path; parent = Some 0; body = Elementary LogicalNot []; first = first; count = 2 }

-- a wire in the root, between the elements of these numbers
abbrev pub wire : ℕ → ℕ → RawWire
wire left right = record { scope = 0; left = left; right = right }
