-- What contracts see of a runner.
use Rattle.std.specs.Prelude.{ℕ, ◌<◌, ◌≡◌, ℤ, Bool, true, false, List, Option, None, Some, length, slice_get}
use Rattle.cdl_values.specs.declared.value.Array.{Array}
use Rattle.cdl_kinds.specs.declared.kind.Kind.{Kind}
use Rattle.cdl_kinds.specs.Meanings.{MayLack}
use Rattle.cdl_kinds.specs.States.{IsSound}
use Rattle.cdl_network.specs.Dependence.{direct_of, inputs_of, outputs_of}
use Rattle.cdl_network.specs.Lists.{In, has_some}
use Rattle.cdl_network.specs.Rules.{word_count}
use Rattle.cdl_network.specs.Ticks.{Tick, values, words}
use Rattle.cdl_connect.specs.declared.net.Net.{Net}
use Rattle.cdl_connect.specs.declared.net.NetInstance.{NetInstance}
use Rattle.cdl_connect.specs.declared.net.Body.{Body}
use Rattle.cdl_connect.specs.declared.net.Body.TheVariants.{Composite, Elementary}
use Rattle.cdl_connect.specs.Nets.{network_of}
use Rattle.cdl_run.specs.declared.resume.ResumeFault.{ResumeFault}
use Rattle.cdl_run.specs.declared.resume.ResumeFault.TheVariants.{Count, State, OutOfMemory}
use Rattle.cdl_run.specs.Runs.{RunStands}
use Rattle.cdl_run.specs.Words.{state_at, valuation}

-- its net, its words, the time of its last tick, and the instance of the fault that it answered
pub record Running : Type 0 where
  pub net : Net
  pub words : List ℤ
  pub last : ℤ
  pub fault : Option ℕ

-- it has answered no fault, and stands for these ticks
pub record Stands (r : Running) (ts : List Tick) : Type 0 where
  pub calm : r.fault ≡ None
  pub run : RunStands r.net ts r.last r.words

-- the state may stand for some ticks, the last of them at this time or before
abbrev pub IsSoundState : Body → List ℤ → ℤ → Type 0
IsSoundState Composite state last = Unit {0}
IsSoundState (Elementary k p) state last = IsSound k p state last

-- the first elementary instance in preorder whose state is not sound for the time
pub record FirstUnsound (n : Net) (last : ℤ) (words : List ℤ) (i : ℕ) : Type 0 where
  pub t : NetInstance
  pub there : slice_get n.instances i ≡ Some t
  pub unsound : IsSoundState t.body (state_at n i words) last → ⊥
  pub first : (j : ℕ) (s : NetInstance) → j < i → slice_get n.instances j ≡ Some s → IsSoundState s.body (state_at n j words) last

-- the direct inputs of an instance have values
abbrev pub is_ready : Net → List ℤ → ℕ → Bool
is_ready n w i = has_some (values (valuation w) (direct_of (network_of n) i))

-- An elementary instance gives no value at a tick, whatever its state stands for: its direct inputs have values, its outputs have none, and its kind may have none with these inputs.
pub record Lacks (n : Net) (now : ℤ) (w : List ℤ) (i : ℕ) : Type 0 where
  pub t : NetInstance
  pub kind : Kind
  pub params : List Array
  pub there : slice_get n.instances i ≡ Some t
  pub body : t.body ≡ Elementary kind params
  pub ready : is_ready n w i ≡ true
  pub none : (x : ℕ) → In x (outputs_of (network_of n) i) → has_some (valuation w x) ≡ false
  pub may : MayLack kind params now (words (valuation w) (inputs_of (network_of n) i))

-- the first in preorder: those before it give values where their direct inputs have values
pub record FirstLacks (n : Net) (now : ℤ) (w : List ℤ) (i : ℕ) : Type 0 where
  pub here : Lacks n now w i
  pub before : (j x : ℕ) → j < i → (network_of n).elementary j ≡ true → is_ready n w j ≡ true → In x (outputs_of (network_of n) j) → has_some (valuation w x) ≡ true

-- Words from which a runner may go on: as many as the net has, and each state sound for the time.
pub record AreSound (n : Net) (last : ℤ) (words : List ℤ) : Type 0 where
  pub size : length words ≡ word_count (network_of n)
  pub states : (i : ℕ) (t : NetInstance) → slice_get n.instances i ≡ Some t → IsSoundState t.body (state_at n i words) last

-- why no runner goes on from words: there are not as many as the net has; or a state is not sound
abbrev pub IsCause : Net → ℤ → List ℤ → ResumeFault → Type 0
IsCause n last words Count = length words ≡ word_count (network_of n) → ⊥
IsCause n last words (State i) = (length words ≡ word_count (network_of n)) × FirstUnsound n last words i
IsCause n last words OutOfMemory = Unit {0}
