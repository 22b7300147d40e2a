-- What the second pass makes true: each state stands for one tick more.
use Rattle.std.specs.Prelude.{ℕ, ◌<◌, ◌≤◌, ◌≡◌, ℤ, negsuc, List, [], ◌∷◌, length, Some, slice_get}
use Rattle.cdl_values.specs.History.{History, IsHistory, tick}
use Rattle.cdl_pass.specs.declared.net.Node.{Node}
use Rattle.cdl_pass.specs.Windows.{ins_of, state_of}
use Rattle.cdl_pass.specs.Net.{Blocks, Net, AllAt}
use Rattle.cdl_pass.specs.Tick.{Past}

-- of the first j instances, the numbers of those with state words, in order
pub record AreStateful (ps : List Node) (j : ℕ) (ns : List ℕ) : Type 0 where
  pub inside : (k a : ℕ) → slice_get ns k ≡ Some a → a < j
  pub rising : (k l a b : ℕ) → k < l → slice_get ns k ≡ Some a → slice_get ns l ≡ Some b → a < b
  pub all : (a : ℕ) (p : Node) → a < j → slice_get ps a ≡ Some p → 0 < p.width → (k : ℕ) × (slice_get ns k ≡ Some a)

-- the ticks of an instance, with this one
abbrev pub longer : ℤ → Past → ℕ → Node → List ℤ → History
longer now r j p w = tick now (ins_of p w) ∷ r j

-- with this tick each instance has a history, and its state stands for the ticks before
abbrev pub MayAbsorb : {B : Type 0} → Blocks B → Net B → ℤ → Past → List ℤ → Type 0
MayAbsorb m n now r w = AllAt n (λ j b p. IsHistory (m.inputs b) (m.meaning b) (longer now r j p w) × m.stands b (state_of p w) (r j))

-- after the first i instances
pub record Absorbed {B : Type 0} (m : Blocks B) (n : Net B) (now : ℤ) (r : Past) (i : ℕ) (old w : List ℤ) : Type 0 where
  pub done : AllAt n (λ j b p. j < i → m.stands b (state_of p w) (longer now r j p old))

-- the states of the first i instances are sound for this tick, and the others are as before
pub record Moved {B : Type 0} (m : Blocks B) (n : Net B) (now : ℤ) (i : ℕ) (old w : List ℤ) : Type 0 where
  pub sound : AllAt n (λ j b p. j < i → m.sound b (state_of p w) now)
  pub todo : AllAt n (λ j b p. i ≤ j → state_of p w ≡ state_of p old)

-- the first k of these numbers are those below i
pub record Upto (ns : List ℕ) (k i : ℕ) : Type 0 where
  pub below : (l a : ℕ) → slice_get ns l ≡ Some a → l < k → a < i
  pub above : (l a : ℕ) → slice_get ns l ≡ Some a → k ≤ l → i ≤ a

-- after a tick: with it each instance has a history, and its state stands for it
abbrev pub Stood : {B : Type 0} → Blocks B → Net B → ℤ → Past → List ℤ → Type 0
Stood m n now r w = AllAt n (λ j b p. IsHistory (m.inputs b) (m.meaning b) (longer now r j p w) × m.stands b (state_of p w) (longer now r j p w))

-- the states of the first i instances stand for no tick
pub record Began {B : Type 0} (m : Blocks B) (n : Net B) (i : ℕ) (w : List ℤ) : Type 0 where
  pub done : AllAt n (λ j b p. j < i → m.stands b (state_of p w) [] × m.sound b (state_of p w) (negsuc 0))

-- the states of the first i instances are sound
pub record Checked {B : Type 0} (m : Blocks B) (n : Net B) (i : ℕ) (last : ℤ) (w : List ℤ) : Type 0 where
  pub done : AllAt n (λ j b p. j < i → m.sound b (state_of p w) last)

-- the first instance whose state is not sound
pub record FirstUnsound {B : Type 0} (m : Blocks B) (n : Net B) (last : ℤ) (w : List ℤ) (i : ℕ) : Type 0 where
  pub within : i < length n.ps
  pub before : AllAt n (λ j b p. j < i → m.sound b (state_of p w) last)
  pub here : AllAt n (λ j b p. j ≡ i → m.sound b (state_of p w) last → ⊥)
