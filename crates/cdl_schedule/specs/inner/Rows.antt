-- What determines what, in rows of numbers. The elements of a net have their own numbers, and its instances those behind: an output has its value from its instance, and an elementary instance from its direct inputs.
use Rattle.std.specs.Prelude.{ℕ, ◌+◌, ◌<◌, ◌≤◌, ◌≡◌, ◌⊎◌, ◌++◌, ◌∷◌, [], Bool, true, false, cond, List, length, get_or, Option, Some, None, slice_get}
use Rattle.cdl_network.specs.Dependence.{Origin, Row, From, Out, HasOrigin, direct_of}
use Rattle.cdl_network.specs.Lists.{In, has_some}
use Rattle.cdl_network.specs.Rules.{sink_of, source_of}
use Rattle.cdl_kinds.specs.Table.{row}
use Rattle.cdl_connect.specs.declared.net.Net.{Net}
use Rattle.cdl_connect.specs.declared.net.RawWire.{RawWire}
use Rattle.cdl_connect.specs.declared.net.Body.{Body}
use Rattle.cdl_connect.specs.declared.net.Body.TheVariants.{Composite, Elementary}
use Rattle.cdl_connect.specs.Nets.{network_of, wire_in}

abbrev pub vertex_count : Net → ℕ
vertex_count n = length n.elements + length n.instances

-- the vertex from which an element with this origin has its value
abbrev pub vertex_of : ℕ → Origin ℕ ℕ → Option ℕ
vertex_of m (Row k) = None
vertex_of m (From s) = Some s
vertex_of m (Out i k) = Some (m + i)

-- an element has its value from the vertex
abbrev pub IsGiven : Net → ℕ → ℕ → Type 0
IsGiven n u x = (c : Origin ℕ ℕ) × HasOrigin (network_of n) x c × (vertex_of (length n.elements) c ≡ Some u)

-- an elementary instance takes the vertex at once
abbrev pub IsTaken : Net → ℕ → ℕ → Type 0
IsTaken n u v = (i : ℕ) × (v ≡ length n.elements + i) × ((network_of n).elementary i ≡ true) × In u (direct_of (network_of n) i)

abbrev pub Precedes : Net → ℕ → ℕ → Type 0
Precedes n u v = IsGiven n u v ⊎ IsTaken n u v

-- The rows of the vertices below v are whole, and that of v holds what is below x; none holds anything else.
pub record AreRows (D : ℕ → ℕ → Type 0) (top v x : ℕ) (first edges : List ℕ) : Type 0 where
  pub size : length first ≡ v + 1
  pub rises : (w : ℕ) → w < v → get_or first w 0 ≤ get_or first (w + 1) 0
  pub ends : (w : ℕ) → w < v + 1 → get_or first w 0 ≤ length edges
  pub inside : (k : ℕ) → k < length edges → get_or edges k 0 < top
  pub each : (u w : ℕ) → w < v → D u w → (k : ℕ) × (get_or first w 0 ≤ k) × (k < get_or first (w + 1) 0) × (get_or edges k 0 ≡ u)
  pub only : (k w : ℕ) → w < v → get_or first w 0 ≤ k → k < get_or first (w + 1) 0 → D (get_or edges k 0) w
  pub has : (u : ℕ) → u < x → D u v → (k : ℕ) × (get_or first v 0 ≤ k) × (k < length edges) × (get_or edges k 0 ≡ u)
  pub had : (k : ℕ) → get_or first v 0 ≤ k → k < length edges → D (get_or edges k 0) v

abbrev pub wire_sink : Net → RawWire → ℕ
wire_sink n w = sink_of (network_of n) (wire_in w)

abbrev pub wire_source : Net → RawWire → ℕ
wire_source n w = source_of (network_of n) (wire_in w)

-- at the sink of each of the first t wires the list has the source of one of them that ends there
pub record AreSources (n : Net) (t : ℕ) (sources : List ℕ) : Type 0 where
  pub size : length sources ≡ length n.elements
  pub each : (k : ℕ) (w : RawWire) → k < t → slice_get n.wires k ≡ Some w
      → (j : ℕ) × (v : RawWire) × (slice_get n.wires j ≡ Some v) × (wire_sink n v ≡ wire_sink n w) × (get_or sources (wire_sink n w) 0 ≡ wire_source n v)

-- the vertex from which an element has its value: none at an input of the root, the instance at an output of an elementary one, else its source
abbrev pub cause_of : Net → List ℕ → ℕ → Option ℕ
cause_of n sources x =
    cond ((network_of n).input x)
    (cond (has_some ((network_of n).parent ((network_of n).owner x))) (Some (get_or sources x 0)) None)
    (cond ((network_of n).elementary ((network_of n).owner x)) (Some (length n.elements + (network_of n).owner x)) (Some (get_or sources x 0)))

-- the inputs of the block are direct
abbrev pub is_direct_body : Body → Bool
is_direct_body Composite = false
is_direct_body (Elementary k p) = (row k).direct

abbrev pub added : Bool → List ℕ → ℕ → List ℕ
added wanted xs x = cond wanted (xs ++ x ∷ []) xs
