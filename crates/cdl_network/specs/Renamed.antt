-- One network under other names.
use Rattle.std.specs.Prelude.{◌≡◌, true, List, map, option_map}
use Rattle.cdl_network.specs.Lists.{In}
use Rattle.cdl_network.specs.Network.{Network, Wire}
use Rattle.cdl_network.specs.Dependence.{Origin, Row, From, Out}
use Rattle.cdl_network.specs.FirstBroken.{Spot, AtWire, AtElement, AtInstance}
use Rattle.cdl_network.specs.Ticks.{Valuation, Seen}

abbrev pub rename_wire : {I E J F : Type 0} → (I → J) → (E → F) → Wire I E → Wire J F
rename_wire a b w = record { scope = a w.scope; left = b w.left; right = b w.right }

abbrev pub rename_origin : {I E J F : Type 0} → (I → J) → (E → F) → Origin I E → Origin J F
rename_origin a b (Row k) = Row k
rename_origin a b (From s) = From (b s)
rename_origin a b (Out i k) = Out (a i) k

abbrev pub rename_spot : {I E J F : Type 0} → (I → J) → (E → F) → Spot I E → Spot J F
rename_spot a b (AtWire w r) = AtWire (rename_wire a b w) r
rename_spot a b (AtElement x r) = AtElement (b x) r
rename_spot a b (AtInstance i) = AtInstance (a i)

-- n is m where a and b are other names for its instances and elements
pub record Renamed {I E J F : Type 0} (a : I → J) (b : E → F) (m : Network I E) (n : Network J F) : Type 0 where
  pub instances : n.instances ≡ map a m.instances
  pub elements : n.elements ≡ map b m.elements
  pub wires : n.wires ≡ map (rename_wire a b) m.wires
  pub same_instance : (i j : I) → In i m.instances → In j m.instances → n.same_instance (a i) (a j) ≡ m.same_instance i j
  pub same_element : (x y : E) → In x m.elements → In y m.elements → n.same_element (b x) (b y) ≡ m.same_element x y
  pub apart_instances : (i j : I) → In i m.instances → In j m.instances → a i ≡ a j → i ≡ j
  pub apart_elements : (x y : E) → In x m.elements → In y m.elements → b x ≡ b y → x ≡ y
  pub parent : (i : I) → In i m.instances → n.parent (a i) ≡ option_map a (m.parent i)
  pub elementary : (i : I) → In i m.instances → n.elementary (a i) ≡ m.elementary i
  pub owner : (x : E) → In x m.elements → n.owner (b x) ≡ a (m.owner x)
  pub input : (x : E) → In x m.elements → n.input (b x) ≡ m.input x
  pub value_type : (x : E) → In x m.elements → n.value_type (b x) ≡ m.value_type x
  pub unit : (x : E) → In x m.elements → n.unit (b x) ≡ m.unit x
  pub direct : (x : E) → In x m.elements → n.direct (b x) ≡ m.direct x
  pub meaning : (i : I) → In i m.instances → m.elementary i ≡ true → n.meaning (a i) ≡ m.meaning i
  pub state_words : (i : I) → In i m.instances → m.elementary i ≡ true → n.state_words (a i) ≡ m.state_words i

-- a valuation of the new names, at the old
abbrev pub back : {E F : Type 0} → (E → F) → Valuation F → Valuation E
back b v x = v (b x)

abbrev pub seen_back : {E F : Type 0} → (E → F) → Seen F → Seen E
seen_back b p = record { time = p.time; value = back b p.value }

abbrev pub past_back : {E F : Type 0} → (E → F) → List (Seen F) → List (Seen E)
past_back b ps = map (seen_back b) ps
