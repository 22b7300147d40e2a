-- What a runner stands for.
use Rattle.std.specs.Prelude.{ℕ, ◌<◌, ◌≡◌, ℤ, negsuc, List, [], ◌∷◌, ◌++◌, length, Some, slice_get}
use Rattle.cdl_values.specs.History.{History, IsHistory, IsValue, word}
use Rattle.cdl_kinds.specs.Meanings.{meaning}
use Rattle.cdl_kinds.specs.Ports.{inputs}
use Rattle.cdl_kinds.specs.States.{Stands}
use Rattle.cdl_network.specs.Dependence.{root_inputs}
use Rattle.cdl_network.specs.Ticks.{Runs, Seen, Solves, Tick, Valuation, after, fault_of, history}
use Rattle.cdl_connect.specs.declared.net.Net.{Net}
use Rattle.cdl_connect.specs.declared.net.NetInstance.{NetInstance}
use Rattle.cdl_connect.specs.declared.net.Body.{Body}
use Rattle.cdl_connect.specs.declared.net.Body.TheVariants.{Composite, Elementary}
use Rattle.cdl_connect.specs.Nets.{network_of}
use Rattle.cdl_run.specs.Words.{state_at, valuation}

-- the time of the latest tick, or -1 before any
abbrev pub last_time : List (Seen ℕ) → ℤ
last_time [] = negsuc 0
last_time (s ∷ past) = s.time

-- the ticks are a history of the block, and the state stands for them
abbrev pub StandsFor : Body → List ℤ → History → Type 0
StandsFor Composite state h = Unit {0}
StandsFor (Elementary k p) state h = IsHistory (inputs k p) (meaning k p) h × Stands k p state h

-- the element words are the latest valuation
abbrev pub AreShown : Net → List (Seen ℕ) → List ℤ → Type 0
AreShown n [] words = Unit {0}
AreShown n (s ∷ past) words = (e : ℕ) → e < length n.elements → s.value e ≡ valuation words e

-- The words and the last time are those of these ticks: the only valuations that solve the net for them have no fault, each state stands for the history of its instance, and the element words are the last valuation.
pub record RunStands (n : Net) (ts : List Tick) (last : ℤ) (words : List ℤ) : Type 0 where
  pub values : List (Valuation ℕ)
  pub runs : Runs (network_of n) ts values
  pub last_is : last ≡ last_time (after [] ts values)
  pub states : (i : ℕ) (t : NetInstance) → slice_get n.instances i ≡ Some t → StandsFor t.body (state_at n i words) (history (network_of n) (after [] ts values) i)
  pub shown : AreShown n (after [] ts values) words

-- a word of its type for each input of the root
pub record IsRow (n : Net) (row : List ℤ) : Type 0 where
  pub size : length row ≡ length (root_inputs (network_of n))
  pub each : (k x : ℕ) → slice_get (root_inputs (network_of n)) k ≡ Some x → IsValue ((network_of n).value_type x) (word row k)

-- behind these ticks the tick has a fault, in every solution, and this instance is the first with one
abbrev pub HasFault : Net → List Tick → Tick → ℕ → Type 0
HasFault n ts t i = (vs : List (Valuation ℕ)) → Solves (network_of n) [] (ts ++ t ∷ []) vs → fault_of (network_of n) [] (ts ++ t ∷ []) vs ≡ Some (t.time, i)

abbrev pub tick_at : ℤ → List ℤ → Tick
tick_at now row = record { time = now; row = row }
