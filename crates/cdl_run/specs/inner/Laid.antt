-- How the blocks, the windows and the steps of a runner are those of its net.
use Rattle.std.specs.Prelude.{ℕ, ◌+◌, ◌<◌, ◌≡◌, ◌↔◌, ℤ, cond, List, length, map, get_or, Some, slice_get}
use Rattle.cdl_values.specs.History.{History}
use Rattle.cdl_values.specs.declared.value.Array.{Array}
use Rattle.cdl_values.specs.declared.value.ValueType.{ValueType}
use Rattle.cdl_kinds.specs.declared.kind.Kind.{Kind}
use Rattle.cdl_kinds.specs.Meanings.{MayLack, meaning}
use Rattle.cdl_kinds.specs.Ports.{inputs, outputs}
use Rattle.cdl_kinds.specs.StateWords.{state_words}
use Rattle.cdl_kinds.specs.States.{IsSound, Stands}
use Rattle.cdl_kinds.specs.Table.{row}
use Rattle.cdl_network.specs.Dependence.{root_inputs}
use Rattle.cdl_connect.specs.declared.net.Net.{Net}
use Rattle.cdl_connect.specs.declared.net.NetInstance.{NetInstance}
use Rattle.cdl_connect.specs.declared.net.Body.TheVariants.{Elementary}
use Rattle.cdl_connect.specs.Nets.{network_of}
use Rattle.cdl_pass.specs.declared.net.Action.{Action}
use Rattle.cdl_pass.specs.declared.net.Node.{Node}
use Rattle.cdl_pass.specs.Net.{Blocks}
use Rattle.cdl_schedule.specs.declared.steps.Step.{Step}
use Rattle.cdl_schedule.specs.declared.steps.Step.TheVariants.{Input, Copy, Emit}
use Rattle.cdl_run.specs.Words.{elementary_below, state_place}

-- the block is that of the kind with these parameters
pub record IsBlock {B : Type 0} (m : Blocks B) (b : B) (k : Kind) (v : List Array) : Type 0 where
  pub inputs : m.inputs b ≡ inputs k v
  pub results : m.results b ≡ outputs k v
  pub width : m.width b ≡ state_words k v
  pub meaning : m.meaning b ≡ meaning k v
  pub stands : (state : List ℤ) (h : History) → m.stands b state h ↔ Stands k v state h
  pub sound : (state : List ℤ) (last : ℤ) → m.sound b state last ↔ IsSound k v state last
  pub may_lack : (now : ℤ) (x : List ℤ) → m.may_lack b now x → MayLack k v now x

-- where the words of an instance lie
abbrev pub node_of : Net → ℕ → NetInstance → Kind → List Array → Node
node_of n i t k v = record {
  ins = t.first;
  nin = (inputs k v).count;
  reads = cond (row k).direct (inputs k v).count 0;
  outs = t.first + (inputs k v).count;
  nout = (outputs k v).count;
  state = state_place n i;
  width = state_words k v;
}

-- the block and the windows of an instance
pub record IsPlaced {B : Type 0} (m : Blocks B) (n : Net) (i : ℕ) (b : B) (p : Node) : Type 0 where
  pub t : NetInstance
  pub k : Kind
  pub v : List Array
  pub there : slice_get n.instances i ≡ Some t
  pub body : t.body ≡ Elementary k v
  pub block : IsBlock m b k v
  pub node : p ≡ node_of n i t k v

-- the blocks and windows of the elementary instances among the first i, in order
pub record ArePlaced {B : Type 0} (m : Blocks B) (n : Net) (i : ℕ) (bs : List B) (ps : List Node) : Type 0 where
  pub blocks : length bs ≡ length (elementary_below n i)
  pub nodes : length ps ≡ length (elementary_below n i)
  pub each : (j q : ℕ) (b : B) (p : Node) → slice_get (elementary_below n i) j ≡ Some q → slice_get bs j ≡ Some b → slice_get ps j ≡ Some p → IsPlaced m n q b p

-- the number of an elementary instance among those
abbrev pub rank : Net → ℕ → ℕ
rank n i = length (elementary_below n i)

abbrev pub action_of : Net → Step → Action
action_of n (Input k x) = Action.Input k x
action_of n (Copy s x) = Action.Copy s x
action_of n (Emit i) = Action.Emit (rank n i)

-- the types of the elements, and those of the row
abbrev pub element_types : Net → List ValueType
element_types n = map (λ e. e.value_type) n.elements

abbrev pub row_types : Net → List ValueType
row_types n = map (network_of n).value_type (root_inputs (network_of n))

-- the numbers of the first i instances among the elementary ones
pub record AreRanks (n : Net) (i : ℕ) (ranks : List ℕ) : Type 0 where
  pub size : length ranks ≡ i
  pub each : (q : ℕ) → q < i → get_or ranks q 0 ≡ rank n q

-- what is made of the first i instances
pub record AreBuilt {B : Type 0} (m : Blocks B) (n : Net) (i : ℕ) (bs : List B) (ps : List Node) (is ranks : List ℕ) : Type 0 where
  pub placed : ArePlaced m n i bs ps
  pub instances : is ≡ elementary_below n i
  pub numbers : AreRanks n i ranks
