-- A net: its blocks, the windows of its instances, and the steps of a tick in the order of the plan.
use Rattle.std.specs.Prelude.{ℕ, ◌+◌, ◌<◌, ◌≤◌, ◌≡◌, ℤ, nat_lt, List, length, Option, Some, slice_get, slice_index_or}
use Rattle.cdl_values.specs.declared.value.ValueType.{ValueType}
use Rattle.cdl_values.specs.History.{History, Signature}
use Rattle.cdl_pass.specs.declared.net.Node.{Node}
use Rattle.cdl_pass.specs.declared.net.Action.{Action}
use Rattle.cdl_pass.specs.Windows.{Lies}

-- what a type of blocks means
pub record Blocks (B : Type 0) : Type 1 where
  pub inputs : B → Signature
  pub results : B → Signature
  pub width : B → ℕ
  pub meaning : B → History → ℤ → List ℤ → Option (List ℤ)
  pub stands : B → List ℤ → History → Type 0
  pub sound : B → List ℤ → ℤ → Type 0
  pub may_lack : B → ℤ → List ℤ → Type 0

abbrev pub blocks_of : {B : Type 0} → (B → Signature) → (B → Signature) → (B → ℕ) → (B → History → ℤ → List ℤ → Option (List ℤ)) → (B → List ℤ → History → Type 0) → (B → List ℤ → ℤ → Type 0) → (B → ℤ → List ℤ → Type 0) → Blocks B
blocks_of i r w m s d l = record { inputs = i; results = r; width = w; meaning = m; stands = s; sound = d; may_lack = l }

-- `kinds` has the type of each element, `rows` that of each root input
pub record Net (B : Type 0) : Type 0 where
  pub bs : List B
  pub ps : List Node
  pub actions : List Action
  pub kinds : List ValueType
  pub rows : List ValueType

abbrev pub net_of : {B : Type 0} → List B → List Node → List Action → List ValueType → List ValueType → Net B
net_of bs ps actions kinds rows = record { bs = bs; ps = ps; actions = actions; kinds = kinds; rows = rows }

abbrev pub sort_at : List ValueType → ℕ → ValueType
sort_at ks e = slice_index_or ks e ValueType.Boolean

-- it holds of each instance, its block and its windows
abbrev pub AllAt : {B : Type 0} → Net B → (ℕ → B → Node → Type 0) → Type 0
AllAt {B} n P = (j : ℕ) (b : B) (p : Node) → slice_get n.bs j ≡ Some b → slice_get n.ps j ≡ Some p → P j b p

-- the windows of an instance are those of its block, among so many words of which the first are elements
pub record Fits {B : Type 0} (m : Blocks B) (kinds : List ValueType) (size : ℕ) (b : B) (p : Node) : Type 0 where
  pub lies : Lies p size
  pub elements : p.outs + p.nout ≤ length kinds
  pub state : length kinds ≤ p.state
  pub width : p.width ≡ m.width b
  pub nin : p.nin ≡ (m.inputs b).count
  pub nout : p.nout ≡ (m.results b).count
  pub reads : p.reads ≤ p.nin
  pub direct : (i : ℕ) → i < p.nin → (m.inputs b).direct i ≡ nat_lt i p.reads
  pub ins_typed : (i : ℕ) → i < p.nin → (m.inputs b).value_type i ≡ sort_at kinds (p.ins + i)
  pub outs_typed : (i : ℕ) → i < p.nout → (m.results b).value_type i ≡ sort_at kinds (p.outs + i)

-- all that a step names is there, of like types
abbrev pub Names : {B : Type 0} → Net B → Action → Type 0
Names n (Action.Input i t) = (i < length n.rows) × (t < length n.kinds) × (sort_at n.rows i ≡ sort_at n.kinds t)
Names n (Action.Copy s t) = (s < length n.kinds) × (t < length n.kinds) × (sort_at n.kinds s ≡ sort_at n.kinds t)
Names n (Action.Emit j) = j < length n.ps

-- a step reads an element
abbrev pub Reads : List Node → Action → ℕ → Type 0
Reads ps (Action.Input i t) e = ⊥
Reads ps (Action.Copy s t) e = e ≡ s
Reads ps (Action.Emit j) e = (p : Node) × (slice_get ps j ≡ Some p) × (p.ins ≤ e) × (e < p.ins + p.reads)

-- a step writes an element
abbrev pub Writes : List Node → Action → ℕ → Type 0
Writes ps (Action.Input i t) e = e ≡ t
Writes ps (Action.Copy s t) e = e ≡ t
Writes ps (Action.Emit j) e = (p : Node) × (slice_get ps j ≡ Some p) × (p.outs ≤ e) × (e < p.outs + p.nout)

pub record Laid {B : Type 0} (m : Blocks B) (n : Net B) (size : ℕ) : Type 0 where
  pub same : length n.bs ≡ length n.ps
  pub each : AllAt n (λ j b p. Fits m n.kinds size b p)
  pub states : (j k : ℕ) (p q : Node) → j < k → slice_get n.ps j ≡ Some p → slice_get n.ps k ≡ Some q → p.state + p.width ≤ q.state
  pub actions : (i : ℕ) (o : Action) → slice_get n.actions i ≡ Some o → Names n o
  pub elements : length n.kinds ≤ size

-- each element is written once, after all that its step reads
pub record Planned {B : Type 0} (n : Net B) : Type 0 where
  pub each : (e : ℕ) → e < length n.kinds → (i : ℕ) × (o : Action) × (slice_get n.actions i ≡ Some o) × Writes n.ps o e
  pub once : (i j : ℕ) (o q : Action) (e : ℕ) → i < j → slice_get n.actions i ≡ Some o → slice_get n.actions j ≡ Some q → Writes n.ps o e → Writes n.ps q e → ⊥
  pub after : (i : ℕ) (o : Action) (e : ℕ) → slice_get n.actions i ≡ Some o → Reads n.ps o e → (j : ℕ) × (q : Action) × (j < i) × (slice_get n.actions j ≡ Some q) × Writes n.ps q e
  pub all : (j : ℕ) → j < length n.ps → (i : ℕ) × (slice_get n.actions i ≡ Some (Action.Emit j))
