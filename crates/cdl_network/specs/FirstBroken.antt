-- The first broken rule of a network: first the wires, then the elements, then the loops.
use Rattle.std.specs.Prelude.{ℕ, ◌≡◌, Some, None}
use Rattle.cdl_network.specs.Network.{Network, Wire}
use Rattle.cdl_network.specs.Rules.{first_wire, first_element}
use Rattle.cdl_network.specs.Dependence.{FirstLoop}

-- where a rule is broken, and which: C43, C44 and C48 at a wire, C45 and C46 at an element, C50 at an instance
pub data Spot (I E : Type 0) : Type 0 where
  AtWire : (w : Wire I E) (r : ℕ) → Spot I E
  AtElement : (x : E) (r : ℕ) → Spot I E
  AtInstance : (i : I) → Spot I E

abbrev pub FirstBroken : {I E : Type 0} → Network I E → Spot I E → Type 0
FirstBroken n (AtWire w r) = first_wire n ≡ Some (w, r)
FirstBroken n (AtElement x r) = (first_wire n ≡ None) × (first_element n ≡ Some (x, r))
FirstBroken n (AtInstance i) = (first_wire n ≡ None) × (first_element n ≡ None) × FirstLoop n i

-- no rule is broken
abbrev pub Accepted : {I E : Type 0} → Network I E → Type 0
Accepted {I} {E} n = (p : Spot I E) → FirstBroken n p → ⊥
