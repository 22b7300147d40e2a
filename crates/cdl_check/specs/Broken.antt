-- The first broken rule of a network, and the texts of its place.
use Rattle.std.specs.Prelude.{ℕ, ◌≡◌, List}
use Rattle.cdl_source.specs.declared.rules.TheConstants.{LOOP_WITHOUT_DELAY}
use Rattle.cdl_network.specs.FirstBroken.{Spot, FirstBroken, AtWire, AtElement, AtInstance}
use Rattle.cdl_network.specs.Network.{Network}
use Rattle.cdl_connect.specs.declared.net.Net.{Net}
use Rattle.cdl_connect.specs.Nets.{element, network_of}
use Rattle.cdl_connect.specs.Paths.{extended}
use Rattle.cdl_connect.specs.WellFormed.{path_of}
use Rattle.cdl_check.specs.declared.fault.NetSpot.{NetSpot}
use Rattle.cdl_check.specs.declared.fault.NetSpot.TheVariants.{Wire, Path}
use Rattle.cdl_check.specs.declared.fault.CheckFault.{CheckFault}
use Rattle.cdl_check.specs.declared.fault.CheckFault.TheVariants.{Rule, OutOfMemory}

abbrev pub rule_at : {I E : Type 0} → Spot I E → ℕ
rule_at (AtWire w r) = r
rule_at (AtElement x r) = r
rule_at (AtInstance i) = LOOP_WITHOUT_DELAY

-- a place by the paths of its elements or its instance
abbrev pub place_of : {I E : Type 0} → (I → List ℕ) → (E → List ℕ) → Spot I E → NetSpot
place_of instance_path element_path (AtWire w r) = Wire (element_path w.left) (element_path w.right)
place_of instance_path element_path (AtElement x r) = Path (element_path x)
place_of instance_path element_path (AtInstance i) = Path (instance_path i)

-- The network breaks this rule first, at this place; its instances and elements have these paths.
pub record BreaksFirst {I E : Type 0} (n : Network I E) (instance_path : I → List ℕ) (element_path : E → List ℕ) (rule : ℕ) (place : NetSpot) : Type 0 where
  pub spot : Spot I E
  pub first : FirstBroken n spot
  pub rule_is : rule ≡ rule_at spot
  pub place_is : place ≡ place_of instance_path element_path spot

-- the path of an element: that of its instance, extended by its step
abbrev pub element_path : Net → ℕ → List ℕ
element_path n x = extended (path_of n (element n x).instance) (element n x).name

-- The fault is the first broken rule of the net; want of memory is free.
abbrev pub Refuses : Net → CheckFault → Type 0
Refuses n (Rule rule spot) = BreaksFirst (network_of n) (path_of n) (element_path n) rule spot
Refuses n OutOfMemory = Unit {0}
