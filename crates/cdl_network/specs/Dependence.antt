-- What each element has its value from, what determines what, and loops.
use Rattle.std.specs.Prelude.{ℕ, zero, suc, ◌<◌, ◌≡◌, ◌&&◌, Bool, true, not, List, filter, Some, slice_get}
use Rattle.cdl_network.specs.Lists.{In, has_some}
use Rattle.cdl_network.specs.Network.{Network, Wire}
use Rattle.cdl_network.specs.Rules.{source_of, sink_of}

-- what an element has its value from: a place of the row, a source, or an output of an elementary instance
pub data Origin (I E : Type 0) : Type 0 where
  Row : (k : ℕ) → Origin I E
  From : (s : E) → Origin I E
  Out : (i : I) (k : ℕ) → Origin I E

abbrev pub is_of : {I E : Type 0} → Network I E → I → E → Bool
is_of n i x = n.same_instance (n.owner x) i

-- the elements of an instance, in order
abbrev pub inputs_of : {I E : Type 0} → Network I E → I → List E
inputs_of n i = filter (λ x. is_of n i x && n.input x) n.elements

abbrev pub direct_of : {I E : Type 0} → Network I E → I → List E
direct_of n i = filter (λ x. is_of n i x && (n.input x && n.direct x)) n.elements

abbrev pub outputs_of : {I E : Type 0} → Network I E → I → List E
outputs_of n i = filter (λ x. is_of n i x && not (n.input x)) n.elements

abbrev pub is_root_input : {I E : Type 0} → Network I E → E → Bool
is_root_input n x = n.input x && not (has_some (n.parent (n.owner x)))

abbrev pub root_inputs : {I E : Type 0} → Network I E → List E
root_inputs n = filter (is_root_input n) n.elements

abbrev pub HasOrigin : {I E : Type 0} → Network I E → E → Origin I E → Type 0
HasOrigin n x (Row k) = slice_get (root_inputs n) k ≡ Some x
HasOrigin {I} {E} n x (From s) = (w : Wire I E) × In w n.wires × (source_of n w ≡ s) × (sink_of n w ≡ x)
HasOrigin n x (Out i k) = In i n.instances × (n.elementary i ≡ true) × (slice_get (outputs_of n i) k ≡ Some x)

-- what plays a part in the value of an origin at the same tick: inputs that aren't direct don't
abbrev pub Reads : {I E : Type 0} → Network I E → Origin I E → E → Type 0
Reads n (Row k) s = ⊥
Reads n (From t) s = s ≡ t
Reads n (Out i k) s = In s (direct_of n i)

-- some wire joins the source s to the sink x, or s is a direct input and x an output of one elementary instance
abbrev pub Determines : {I E : Type 0} → Network I E → E → E → Type 0
Determines {I} {E} n s x = (c : Origin I E) × HasOrigin n x c × Reads n c s

-- the element determines the other in this many steps
abbrev pub Walk : {I E : Type 0} → Network I E → E → E → ℕ → Type 0
Walk n x y zero = x ≡ y
Walk {I} {E} n x y (suc k) = (z : E) × Walk n x z k × Determines n z y

-- the element determines itself in one or more steps
abbrev pub OnLoop : {I E : Type 0} → Network I E → E → Type 0
OnLoop n x = (k : ℕ) × Walk n x x (suc k)

-- the instance has an element on a loop
abbrev pub HasLoop : {I E : Type 0} → Network I E → I → Type 0
HasLoop {I} {E} n i = (x : E) × In x n.elements × (n.owner x ≡ i) × OnLoop n x

-- it is the first instance in preorder that has one
abbrev pub FirstLoop : {I E : Type 0} → Network I E → I → Type 0
FirstLoop {I} {E} n i = (k : ℕ) × (slice_get n.instances k ≡ Some i) × HasLoop n i × ((j : ℕ) (l : I) → j < k → slice_get n.instances j ≡ Some l → HasLoop n l → ⊥)

-- nothing is on a loop
abbrev pub NoLoop : {I E : Type 0} → Network I E → Type 0
NoLoop {I} {E} n = (x : E) → In x n.elements → OnLoop n x → ⊥
