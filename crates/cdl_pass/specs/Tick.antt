-- The equations of a tick, and its faults. A valuation gives each element a word, that of 'no value' where it has none.
use Rattle.std.specs.Prelude.{ℕ, zero, suc, ◌+◌, ◌<◌, ◌≤◌, ◌≡◌, ◌⊎◌, ℤ, Bool, true, false, not, ◌&&◌, cond, nat_le, List, [], ◌∷◌, length, Option, Some, None, slice_get}
use Rattle.std.specs.Ordering.{int_eq}
use Rattle.cdl_values.specs.declared.value.ValueType.{ValueType}
use Rattle.cdl_values.specs.History.{History, IsHistory, IsLater, IsValue, no_value, word}
use Rattle.cdl_pass.specs.declared.net.Node.{Node}
use Rattle.cdl_pass.specs.declared.net.Action.{Action}
use Rattle.cdl_pass.specs.Windows.{state_of}
use Rattle.cdl_pass.specs.Net.{Blocks, Net, AllAt, Writes, sort_at}

abbrev pub Valuation : Type 0
Valuation = ℕ → ℤ

abbrev pub is_none : ℤ → Bool
is_none w = int_eq w no_value

-- n words from an element on
abbrev pub words_from : Valuation → ℕ → ℕ → List ℤ
words_from v a zero = []
words_from v a (suc n) = v a ∷ words_from v (a + 1) n

-- n elements from this one on have values
abbrev pub ready : Valuation → ℕ → ℕ → Bool
ready v a zero = true
ready v a (suc n) = not (is_none (v a)) && ready v (a + 1) n

-- what an instance gives, by its history
abbrev pub given : {B : Type 0} → Blocks B → B → Node → History → ℤ → Valuation → Option (List ℤ)
given m b p h now v = cond (ready v p.ins p.reads) (m.meaning b h now (words_from v p.ins p.nin)) None

abbrev pub lacks : {X : Type 0} → Option X → Bool
lacks (Some x) = false
lacks None = true

-- its direct inputs have values, and it has no meaning
abbrev pub has_fault : {B : Type 0} → Blocks B → B → Node → History → ℤ → Valuation → Bool
has_fault m b p h now v = ready v p.ins p.reads && lacks (m.meaning b h now (words_from v p.ins p.nin))

abbrev pub out_word : Option (List ℤ) → ℕ → ℤ
out_word None k = no_value
out_word (Some ys) k = word ys k

-- the ticks before, of each instance
abbrev pub Past : Type 0
Past = ℕ → History

-- what a step makes of the words before it, written into those after it
abbrev pub Gives : {B : Type 0} → Blocks B → Net B → ℤ → List ℤ → Past → Valuation → Valuation → Action → Type 0
Gives m n now row r v u (Action.Input i t) = u t ≡ word row i
Gives m n now row r v u (Action.Copy s t) = u t ≡ v s
Gives {B} m n now row r v u (Action.Emit j) = (b : B) (p : Node) → slice_get n.bs j ≡ Some b → slice_get n.ps j ≡ Some p → (k : ℕ) → k < p.nout → u (p.outs + k) ≡ out_word (given m b p (r j) now v) k

-- the equation of a step
abbrev pub Meets : {B : Type 0} → Blocks B → Net B → ℤ → List ℤ → Past → Valuation → Action → Type 0
Meets m n now row r v o = Gives m n now row r v v o

-- all equations, whatever the order
abbrev pub Solves : {B : Type 0} → Blocks B → Net B → ℤ → List ℤ → Past → Valuation → Type 0
Solves m n now row r v = (i : ℕ) (o : Action) → slice_get n.actions i ≡ Some o → Meets m n now row r v o

-- an instance has a fault
pub record Fault {B : Type 0} (m : Blocks B) (n : Net B) (now : ℤ) (r : Past) (v : Valuation) (j : ℕ) : Type 0 where
  pub block : B
  pub node : Node
  pub block_is : slice_get n.bs j ≡ Some block
  pub node_is : slice_get n.ps j ≡ Some node
  pub faults : has_fault m block node (r j) now v ≡ true

-- whether a step has a fault
abbrev pub FaultIs : {B : Type 0} → Blocks B → Net B → ℤ → Past → Valuation → Bool → Action → Type 0
FaultIs m n now r v f (Action.Input i t) = f ≡ false
FaultIs m n now r v f (Action.Copy s t) = f ≡ false
FaultIs {B} m n now r v f (Action.Emit j) = (b : B) (p : Node) → slice_get n.bs j ≡ Some b → slice_get n.ps j ≡ Some p → f ≡ has_fault m b p (r j) now v

abbrev pub NoFault : {B : Type 0} → Blocks B → Net B → ℤ → Past → Valuation → Type 0
NoFault m n now r v = (j : ℕ) → Fault m n now r v j → ⊥

-- the emits of a step, and of the first i steps
abbrev pub spent : Action → ℕ
spent (Action.Input i t) = 0
spent (Action.Copy s t) = 0
spent (Action.Emit j) = 1

abbrev pub spent_in : List Action → ℕ → ℕ
spent_in actions zero = 0
spent_in [] (suc i) = 0
spent_in (o ∷ actions) (suc i) = spent o + spent_in actions i

-- the first in preorder with a fault
pub record FirstFault {B : Type 0} (m : Blocks B) (n : Net B) (now : ℤ) (r : Past) (v : Valuation) (j : ℕ) : Type 0 where
  pub is : Fault m n now r v j
  pub least : (i : ℕ) → Fault m n now r v i → j ≤ i

-- before a tick: each instance has a history, and its state stands for it
abbrev pub Starts : {B : Type 0} → Blocks B → Net B → ℤ → Past → List ℤ → Type 0
Starts m n now r w = AllAt n (λ j b p. IsHistory (m.inputs b) (m.meaning b) (r j) × IsLater now (r j) × m.stands b (state_of p w) (r j))

-- a root input has a word of its type
pub record RowOf (rows : List ValueType) (row : List ℤ) : Type 0 where
  pub size : length row ≡ length rows
  pub each : (i : ℕ) → i < length rows → IsValue (sort_at rows i) (word row i)

-- an element has a value of its type, or none
abbrev pub IsTyped : List ValueType → Valuation → ℕ → Type 0
IsTyped kinds v e = (v e ≡ no_value) ⊎ IsValue (sort_at kinds e) (v e)

abbrev pub lesser_of : Option ℕ → ℕ → Option ℕ
lesser_of (Some l) j = Some (cond (nat_le l j) l j)
lesser_of None j = Some j

abbrev pub lesser : Option ℕ → Action → Option ℕ
lesser least (Action.Input i t) = least
lesser least (Action.Copy s t) = least
lesser least (Action.Emit j) = lesser_of least j

-- what the first steps have written has types, and values where there was no fault
pub record Typed {B : Type 0} (n : Net B) (i : ℕ) (v : Valuation) (least : Option ℕ) : Type 0 where
  pub typed : (q : ℕ) (o : Action) (e : ℕ) → q < i → slice_get n.actions q ≡ Some o → Writes n.ps o e → IsTyped n.kinds v e
  pub whole : least ≡ None → (q : ℕ) (o : Action) (e : ℕ) → q < i → slice_get n.actions q ≡ Some o → Writes n.ps o e → IsValue (sort_at n.kinds e) (v e)

-- after the first steps of the plan
pub record Passed {B : Type 0} (m : Blocks B) (n : Net B) (now : ℤ) (row : List ℤ) (r : Past) (i : ℕ) (v : Valuation) (least : Option ℕ) : Type 0 where
  pub solved : (q : ℕ) (o : Action) → q < i → slice_get n.actions q ≡ Some o → Meets m n now row r v o
  pub is : (j : ℕ) → least ≡ Some j → (q : ℕ) × (q < i) × (slice_get n.actions q ≡ Some (Action.Emit j)) × Fault m n now r v j
  pub each : (q j : ℕ) → q < i → slice_get n.actions q ≡ Some (Action.Emit j) → Fault m n now r v j → (l : ℕ) × (least ≡ Some l) × (l ≤ j)

-- An instance gives no value at words that no history need stand for: its direct inputs have values, its outputs have none, and its block may have none with inputs that have the words of the direct ones.
pub record Lack {B : Type 0} (m : Blocks B) (n : Net B) (now : ℤ) (v : Valuation) (j : ℕ) : Type 0 where
  pub block : B
  pub node : Node
  pub block_is : slice_get n.bs j ≡ Some block
  pub node_is : slice_get n.ps j ≡ Some node
  pub ready : ready v node.ins node.reads ≡ true
  pub none : (k : ℕ) → k < node.nout → v (node.outs + k) ≡ no_value
  pub ins : List ℤ
  pub size : length ins ≡ node.nin
  pub direct : (i : ℕ) → i < node.reads → word ins i ≡ v (node.ins + i)
  pub may : m.may_lack block now ins

-- where its direct inputs have values, its outputs have
abbrev pub Answers : {B : Type 0} → Net B → Valuation → ℕ → Type 0
Answers n v j = (p : Node) → slice_get n.ps j ≡ Some p → ready v p.ins p.reads ≡ true → (k : ℕ) → k < p.nout → IsValue (sort_at n.kinds (p.outs + k)) (v (p.outs + k))

-- whether the instance of a step gives no value
abbrev pub LackIs : {B : Type 0} → Blocks B → Net B → ℤ → Valuation → Bool → Action → Type 0
LackIs m n now v f (Action.Input i t) = f ≡ false
LackIs m n now v f (Action.Copy s t) = f ≡ false
LackIs m n now v f (Action.Emit j) = (f ≡ true → Lack m n now v j) × (f ≡ false → Answers n v j)

-- the first in preorder that gives no value
pub record FirstLack {B : Type 0} (m : Blocks B) (n : Net B) (now : ℤ) (v : Valuation) (j : ℕ) : Type 0 where
  pub is : Lack m n now v j
  pub before : (i : ℕ) → i < j → Answers n v i

-- after the first steps
pub record Tried {B : Type 0} (m : Blocks B) (n : Net B) (now : ℤ) (i : ℕ) (v : Valuation) (least : Option ℕ) : Type 0 where
  pub is : (j : ℕ) → least ≡ Some j → (q : ℕ) × (q < i) × (slice_get n.actions q ≡ Some (Action.Emit j)) × Lack m n now v j
  pub each : (q j : ℕ) → q < i → slice_get n.actions q ≡ Some (Action.Emit j) → Answers n v j ⊎ ((l : ℕ) × (least ≡ Some l) × (l ≤ j))
