-- The first broken rule of a net, by its place, and what a checked net keeps.
use Rattle.std.specs.Prelude.{ℕ, ◌<◌, ◌≡◌, length, Some, None, slice_get}
use Rattle.cdl_source.specs.declared.rules.TheConstants.{TWO_SOURCES_OR_SINKS, TYPES_DIFFER, MORE_THAN_ONE_SOURCE, NO_SOURCE, UNITS_DIFFER}
use Rattle.cdl_network.specs.FirstBroken.{Spot, AtWire, AtElement}
use Rattle.cdl_network.specs.Rules.{wire_fault, element_fault}
use Rattle.cdl_connect.specs.declared.net.Net.{Net}
use Rattle.cdl_connect.specs.declared.net.RawWire.{RawWire}
use Rattle.cdl_connect.specs.declared.faults.NetFault.{NetFault}
use Rattle.cdl_connect.specs.declared.faults.NetFault.TheVariants.{SameSide, TypesDiffer, UnitsDiffer, ManySources, NoSource, OutOfMemory}
use Rattle.cdl_connect.specs.Nets.{network_of, wire_in}
use Rattle.cdl_connect.specs.WellFormed.{IsIndexed}

-- the first k wires break no rule
abbrev pub FineWires : Net → ℕ → Type 0
FineWires n k = (j : ℕ) (w : RawWire) → j < k → slice_get n.wires j ≡ Some w → wire_fault (network_of n) (wire_in w) ≡ None

-- the first k elements break no rule
abbrev pub FineElements : Net → ℕ → Type 0
FineElements n k = (x : ℕ) → x < k → element_fault (network_of n) x ≡ None

-- the wire at this place is the first that breaks a rule, and this is the first rule that it breaks
pub record IsFirstWire (n : Net) (k r : ℕ) : Type 0 where
  pub wire : RawWire
  pub there : slice_get n.wires k ≡ Some wire
  pub broken : wire_fault (network_of n) (wire_in wire) ≡ Some r
  pub first : FineWires n k

-- no wire breaks a rule, and this element is the first that breaks this one
pub record IsFirstElement (n : Net) (x r : ℕ) : Type 0 where
  pub wires : FineWires n (length n.wires)
  pub there : x < length n.elements
  pub broken : element_fault (network_of n) x ≡ Some r
  pub first : FineElements n x

-- The fault is that of the first broken rule of wires and elements, with its place; want of memory is free.
abbrev pub IsFault : Net → NetFault → Type 0
IsFault n (SameSide k) = IsFirstWire n k TWO_SOURCES_OR_SINKS
IsFault n (TypesDiffer k) = IsFirstWire n k TYPES_DIFFER
IsFault n (UnitsDiffer k) = IsFirstWire n k UNITS_DIFFER
IsFault n (ManySources x) = IsFirstElement n x MORE_THAN_ONE_SOURCE
IsFault n (NoSource x) = IsFirstElement n x NO_SOURCE
IsFault n OutOfMemory = Unit {0}

-- No rule of wires and elements is broken.
pub record IsUnbroken (n : Net) : Type 0 where
  pub wires : FineWires n (length n.wires)
  pub elements : FineElements n (length n.elements)

-- What is known of a checked net.
pub record IsChecked (n : Net) : Type 0 where
  pub indexed : IsIndexed n
  pub unbroken : IsUnbroken n

-- the spot in the network of a fault of the net
abbrev pub IsSpotOf : Net → NetFault → Spot ℕ ℕ → Type 0
IsSpotOf n (SameSide k) p = (w : RawWire) × (slice_get n.wires k ≡ Some w) × (p ≡ AtWire (wire_in w) TWO_SOURCES_OR_SINKS)
IsSpotOf n (TypesDiffer k) p = (w : RawWire) × (slice_get n.wires k ≡ Some w) × (p ≡ AtWire (wire_in w) TYPES_DIFFER)
IsSpotOf n (UnitsDiffer k) p = (w : RawWire) × (slice_get n.wires k ≡ Some w) × (p ≡ AtWire (wire_in w) UNITS_DIFFER)
IsSpotOf n (ManySources x) p = p ≡ AtElement x MORE_THAN_ONE_SOURCE
IsSpotOf n (NoSource x) p = p ≡ AtElement x NO_SOURCE
IsSpotOf n OutOfMemory p = ⊥
