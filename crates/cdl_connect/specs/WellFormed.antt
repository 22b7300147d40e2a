-- When a net is well formed: a field for each sentence.
use Rattle.std.specs.Prelude.{ℕ, zero, suc, ◌+◌, ◌<◌, ◌≤◌, ◌≡◌, ◌==◌, ◌&&◌, ◌||◌, nat_le, nat_lt, Bool, true, false, cond, List, [], ◌∷◌, ◌++◌, map, filter, length, codes, unwrap_or, Option, Some, None, slice_get, IsUtf8}
use Rattle.std.specs.List.{list_any}
use Rattle.cdl_source.specs.declared.limits.TheConstants.{LONGEST_UNIT, MOST_ELEMENTS, MOST_INSTANCES, MOST_STEPS, MOST_WIRES}
use Rattle.cdl_values.specs.declared.value.ValueType.{ValueType}
use Rattle.cdl_values.specs.declared.value.ValueType.TheVariants.{Boolean, Integer, Real}
use Rattle.cdl_kinds.specs.declared.kind.Kind.{Kind}
use Rattle.cdl_values.specs.declared.value.Array.{Array}
use Rattle.cdl_kinds.specs.Conditions.{Keeps}
use Rattle.cdl_kinds.specs.Ports.{PortRow, inputs, outputs, port_at}
use Rattle.cdl_network.specs.Lists.{has_some, numbers}
use Rattle.cdl_network.specs.Rules.{is_some_same, is_own, is_inner, is_real}
use Rattle.cdl_connect.specs.declared.net.Net.{Net}
use Rattle.cdl_connect.specs.declared.net.NetInstance.{NetInstance}
use Rattle.cdl_connect.specs.declared.net.NetElement.{NetElement}
use Rattle.cdl_connect.specs.declared.net.RawWire.{RawWire}
use Rattle.cdl_connect.specs.declared.net.Body.{Body}
use Rattle.cdl_connect.specs.declared.net.Body.TheVariants.{Composite, Elementary}
use Rattle.cdl_connect.specs.Nets.{parent_of, is_elementary, element, network_of}
use Rattle.cdl_connect.specs.Paths.{Step, IsStepText, IsIndexText, ArrayOf, AreArrays, extended}

-- the parent of the instance of that number
abbrev pub parent_at : Net → ℕ → Option ℕ
parent_at n i = parent_of (slice_get n.instances i)

-- an instance and those that it is a part of, up to so many of them
abbrev pub lineage : Net → ℕ → ℕ → List ℕ
lineage n zero i = i ∷ []
lineage n (suc k) i = i ∷ cond (has_some (parent_at n i)) (lineage n k (unwrap_or (parent_at n i) 0)) []

-- All numbers are in range.
pub record AreNumbers (n : Net) : Type 0 where
  pub parent : (i p : ℕ) → parent_at n i ≡ Some p → p < length n.instances
  pub owner : (x : ℕ) → x < length n.elements → (element n x).instance < length n.instances
  pub scope : (k : ℕ) (w : RawWire) → slice_get n.wires k ≡ Some w → w.scope < length n.instances
  pub left : (k : ℕ) (w : RawWire) → slice_get n.wires k ≡ Some w → w.left < length n.elements
  pub right : (k : ℕ) (w : RawWire) → slice_get n.wires k ≡ Some w → w.right < length n.elements

-- Instances stand in preorder, the root first: the next one is a part of the one before, or of one of which that is a part.
pub record IsPreorder (n : Net) : Type 0 where
  pub some : 0 < length n.instances
  pub root : parent_at n 0 ≡ None
  pub next : (i : ℕ) → suc i < length n.instances → list_any (λ a. is_some_same (λ p q. p == q) a (parent_at n (suc i))) (lineage n i i) ≡ true

-- Elements stand by instance, and `first` and `count` give an instance's elements.
pub record AreWindows (n : Net) : Type 0 where
  pub rising : (x y : ℕ) → x ≤ y → y < length n.elements → (element n x).instance ≤ (element n y).instance
  pub within : (i : ℕ) (t : NetInstance) → slice_get n.instances i ≡ Some t → t.first + t.count ≤ length n.elements
  pub own : (i : ℕ) (t : NetInstance) (x : ℕ) → slice_get n.instances i ≡ Some t → x < length n.elements → ((element n x).instance == i) ≡ (nat_le t.first x && nat_lt x (t.first + t.count))

-- Wires stand by scope.
pub record AreByScope (n : Net) : Type 0 where
  pub rising : (j k : ℕ) (v w : RawWire) → j ≤ k → slice_get n.wires j ≡ Some v → slice_get n.wires k ≡ Some w → v.scope ≤ w.scope

-- the element is one of the scope's or of its children's
abbrev pub is_near : Net → ℕ → ℕ → Bool
is_near n s x = is_own (network_of n) s x || is_inner (network_of n) s x

-- The ends of a wire are elements of its scope or of the scope's children.
pub record AreNear (n : Net) : Type 0 where
  pub left : (k : ℕ) (w : RawWire) → slice_get n.wires k ≡ Some w → is_near n w.scope w.left ≡ true
  pub right : (k : ℕ) (w : RawWire) → slice_get n.wires k ≡ Some w → is_near n w.scope w.right ≡ true

-- The root, each parent and the scope of each wire are composite.
pub record AreComposite (n : Net) : Type 0 where
  pub root : is_elementary (slice_get n.instances 0) ≡ false
  pub parent : (i p : ℕ) → parent_at n i ≡ Some p → is_elementary (slice_get n.instances p) ≡ false
  pub scope : (k : ℕ) (w : RawWire) → slice_get n.wires k ≡ Some w → is_elementary (slice_get n.instances w.scope) ≡ false

abbrev pub is_plain : ValueType → Bool
is_plain Boolean = true
is_plain Integer = true
is_plain Real = true
is_plain t = false

-- Each element is Boolean, Integer or Real.
pub record ArePlain (n : Net) : Type 0 where
  pub each : (x : ℕ) → x < length n.elements → is_plain (element n x).value_type ≡ true

-- A unit is UTF-8 of at most 64 bytes, and empty where the element isn't Real.
pub record AreUnits (n : Net) : Type 0 where
  pub utf8 : (x : ℕ) → x < length n.elements → IsUtf8 (element n x).unit
  pub short : (x : ℕ) → x < length n.elements → length (element n x).unit ≤ LONGEST_UNIT
  pub real : (x : ℕ) → x < length n.elements → is_real (element n x).value_type ≡ false → (element n x).unit ≡ []

-- The net is within the limits: at most 20,000 instances, 200,000 elements, 400,000 wires, and 16 steps below the root.
pub record IsWithinLimits (n : Net) : Type 0 where
  pub instances : length n.instances ≤ MOST_INSTANCES
  pub elements : length n.elements ≤ MOST_ELEMENTS
  pub wires : length n.wires ≤ MOST_WIRES
  pub steps : (i : ℕ) → i < length n.instances → length (lineage n i i) ≤ MOST_STEPS + 1

-- the element is the port: its name with its index, its type and its direction
pub record IsPort (p : PortRow) (e : NetElement) : Type 0 where
  pub value_type : e.value_type ≡ p.value_type
  pub input : e.input ≡ p.input
  pub index : List ℕ
  pub spelled : IsIndexText (cond (p.index == 0) [] (p.index ∷ [])) index
  pub name : e.name ≡ p.name ++ index

-- the parameters keep the kind's row, and the elements are the kind's ports in order
pub record HasPorts (n : Net) (t : NetInstance) (k : Kind) (p : List Array) : Type 0 where
  pub keeps : Keeps k p
  pub count : t.count ≡ (inputs k p).count + (outputs k p).count
  pub each : (j : ℕ) → j < t.count → IsPort (port_at k p j) (element n (t.first + j))

abbrev pub FitsBody : Net → NetInstance → Body → Type 0
FitsBody n t Composite = Unit {0}
FitsBody n t (Elementary k p) = HasPorts n t k p

-- Each elementary instance is one of its kind.
pub record AreOfKinds (n : Net) : Type 0 where
  pub each : (i : ℕ) (t : NetInstance) → slice_get n.instances i ≡ Some t → FitsBody n t t.body

-- the paths of an instance's parts, in order
abbrev pub is_part_of : Net → ℕ → ℕ → Bool
is_part_of n i j = is_some_same (λ p q. p == q) i (parent_at n j)

abbrev pub path_in : Option NetInstance → List ℕ
path_in None = []
path_in (Some t) = t.path

abbrev pub path_of : Net → ℕ → List ℕ
path_of n i = path_in (slice_get n.instances i)

-- What the texts of an instance's elements and parts are: steps of whole arrays, each identifier in one of them, and the path of a part is that of the instance and its step.
pub record HasSteps (n : Net) (i : ℕ) (step_of part_step : ℕ → Step) : Type 0 where
  pub step : (x : ℕ) → x < length n.elements → (element n x).instance ≡ i → IsStepText (step_of x) (element n x).name
  pub part : (j : ℕ) → j < length n.instances → is_part_of n i j ≡ true → (text : List ℕ) × IsStepText (part_step j) text × (path_of n j ≡ extended (path_of n i) text)
  pub arrays : (own parts : List ArrayOf) × AreArrays (own ++ parts) (map step_of (filter (λ x. (element n x).instance == i) (numbers 0 (length n.elements))) ++ map part_step (filter (is_part_of n i) (numbers 0 (length n.instances))))
  pub alike : (x y : ℕ) → x < length n.elements → y < length n.elements → (element n x).instance ≡ i → (element n y).instance ≡ i → (step_of x).name ≡ (step_of y).name
      → ((element n x).value_type ≡ (element n y).value_type) × ((element n x).input ≡ (element n y).input)

-- The root's path is `#`, and each instance has elements and parts of whole arrays.
pub record ArePaths (n : Net) : Type 0 where
  pub root : path_of n 0 ≡ codes "#"
  pub each : (i : ℕ) → i < length n.instances → (step part : ℕ → Step) × HasSteps n i step part

-- A well-formed net.
pub record IsWellFormed (n : Net) : Type 0 where
  pub numbers : AreNumbers n
  pub preorder : IsPreorder n
  pub windows : AreWindows n
  pub by_scope : AreByScope n
  pub near : AreNear n
  pub composite : AreComposite n
  pub plain : ArePlain n
  pub units : AreUnits n
  pub limits : IsWithinLimits n
  pub kinds : AreOfKinds n
  pub paths : ArePaths n

-- What the numbers of a net are good for: they are in range, windows give an instance's elements, wires stand in composites, and the lists are within the limits. Each well-formed net is so.
pub record IsIndexed (n : Net) : Type 0 where
  pub numbers : AreNumbers n
  pub windows : AreWindows n
  pub scopes : (k : ℕ) (w : RawWire) → slice_get n.wires k ≡ Some w → is_elementary (slice_get n.instances w.scope) ≡ false
  pub instances : length n.instances ≤ MOST_INSTANCES
  pub elements : length n.elements ≤ MOST_ELEMENTS
  pub wires : length n.wires ≤ MOST_WIRES
