-- When a network is well formed.
use Rattle.std.specs.Prelude.{◌≡◌, false, Some}
use Rattle.cdl_network.specs.Lists.{In, Apart, Tells}
use Rattle.cdl_network.specs.Network.{Network, Wire}

-- what is named is there
pub record Closed {I E : Type 0} (n : Network I E) : Type 0 where
  pub owner : (x : E) → In x n.elements → In (n.owner x) n.instances
  pub parent : (i p : I) → In i n.instances → n.parent i ≡ Some p → In p n.instances
  pub scope : (w : Wire I E) → In w n.wires → In w.scope n.instances
  pub left : (w : Wire I E) → In w n.wires → In w.left n.elements
  pub right : (w : Wire I E) → In w n.wires → In w.right n.elements

-- tests of names tell, each element stands once, and wires stand in composites
pub record Shaped {I E : Type 0} (n : Network I E) : Type 0 where
  pub instances : Tells n.same_instance
  pub elements : Tells n.same_element
  pub apart : Apart n.elements
  pub composite : (w : Wire I E) → In w n.wires → n.elementary w.scope ≡ false
