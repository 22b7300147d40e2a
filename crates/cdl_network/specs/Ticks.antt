-- What a list of valuations has to be that solves a network for a list of ticks: equations, without an order and without states.
use Rattle.std.specs.Prelude.{ℕ, ℤ, pos, suc, ◌<◌, ◌≤◌, length, take, ◌≡◌, ◌⊎◌, ◌&&◌, Bool, false, not, List, [], ◌∷◌, map, Option, Some, None, slice_get}
use Rattle.cdl_values.specs.History.{History, tick}
use Rattle.cdl_network.specs.Lists.{has_some, first_that}
use Rattle.cdl_network.specs.Network.{Network}
use Rattle.cdl_network.specs.Dependence.{Origin, Row, From, Out, HasOrigin, inputs_of, direct_of}

-- each element has a value, which is a word, or none
abbrev pub Valuation : Type 0 → Type 0
Valuation E = E → Option ℤ

-- a tick: its time in milliseconds, and a word for each input of the root
pub record Tick : Type 0 where
  pub time : ℤ
  pub row : List ℤ

-- a tick that is over
pub record Seen (E : Type 0) : Type 0 where
  pub time : ℤ
  pub value : Valuation E

abbrev pub seen : {E : Type 0} → Tick → Valuation E → Seen E
seen t v = record { time = t.time; value = v }

abbrev pub both : Option ℤ → Option (List ℤ) → Option (List ℤ)
both (Some x) (Some xs) = Some (x ∷ xs)
both (Some x) None = None
both None xs = None

-- the values of some elements, where all have one
abbrev pub values : {E : Type 0} → Valuation E → List E → Option (List ℤ)
values v [] = Some []
values v (x ∷ xs) = both (v x) (values v xs)

-- the word of a value; 0 where there is none, which no tick without a fault has
abbrev pub word_of : Option ℤ → ℤ
word_of None = pos 0
word_of (Some w) = w

abbrev pub words : {E : Type 0} → Valuation E → List E → List ℤ
words v xs = map (λ x. word_of (v x)) xs

-- what an instance has seen in the ticks that are over, the latest first
abbrev pub history : {I E : Type 0} → Network I E → List (Seen E) → I → History
history n past i = map (λ p. tick p.time (words p.value (inputs_of n i))) past

-- strict: none where a direct input has none
abbrev pub strict : Option (List ℤ) → Option (List ℤ) → Option (List ℤ)
strict None m = None
strict (Some ws) m = m

-- the direct inputs have values, and there is no meaning
abbrev pub lacks : Option (List ℤ) → Option (List ℤ) → Bool
lacks None m = false
lacks (Some ws) m = not (has_some m)

-- the words of the outputs of an elementary instance, or none
abbrev pub answer : {I E : Type 0} → Network I E → List (Seen E) → ℤ → Valuation E → I → Option (List ℤ)
answer n past now v i = strict (values v (direct_of n i)) (n.meaning i (history n past i) now (words v (inputs_of n i)))

abbrev pub given : ℕ → Option (List ℤ) → Option ℤ
given k None = None
given k (Some ws) = slice_get ws k

-- the value that an origin gives
abbrev pub rule : {I E : Type 0} → Network I E → List (Seen E) → Tick → Valuation E → Origin I E → Option ℤ
rule n past t v (Row k) = slice_get t.row k
rule n past t v (From s) = v s
rule n past t v (Out i k) = given k (answer n past t.time v i)

-- the equations of a tick: each element has its value from its origin
abbrev pub Meets : {I E : Type 0} → Network I E → List (Seen E) → Tick → Valuation E → Type 0
Meets {I} {E} n past t v = (x : E) (c : Origin I E) → HasOrigin n x c → v x ≡ rule n past t v c

-- a fault: values on all direct inputs, and no meaning
abbrev pub is_faulty : {I E : Type 0} → Network I E → List (Seen E) → Tick → Valuation E → I → Bool
is_faulty n past t v i = n.elementary i && lacks (values v (direct_of n i)) (n.meaning i (history n past i) t.time (words v (inputs_of n i)))

-- the first elementary instance in preorder that has a fault
abbrev pub first_fault : {I E : Type 0} → Network I E → List (Seen E) → Tick → Valuation E → Option I
first_fault n past t v = first_that (is_faulty n past t v) n.instances

-- what is over after these ticks, the latest first
abbrev pub after : {E : Type 0} → List (Seen E) → List Tick → List (Valuation E) → List (Seen E)
after past [] vs = past
after past (t ∷ ts) [] = past
after past (t ∷ ts) (v ∷ vs) = after (seen t v ∷ past) ts vs

-- behind a tick with a fault nothing follows
abbrev pub Goes : {I E : Type 0} → Option I → List (Valuation E) → Type 0 → Type 0
Goes None vs further = further
Goes (Some i) vs further = vs ≡ []

-- one valuation a tick, up to the first fault
abbrev pub Solves : {I E : Type 0} → Network I E → List (Seen E) → List Tick → List (Valuation E) → Type 0
Solves n past [] [] = Unit {0}
Solves n past [] (v ∷ vs) = ⊥
Solves n past (t ∷ ts) [] = ⊥
Solves n past (t ∷ ts) (v ∷ vs) = Meets n past t v × Goes (first_fault n past t v) vs (Solves n (seen t v ∷ past) ts vs)

-- the time and the instance of the first fault
abbrev pub or_later : {I : Type 0} → ℤ → Option I → Option (ℤ × I) → Option (ℤ × I)
or_later time None later = later
or_later time (Some i) later = Some (time, i)

abbrev pub fault_of : {I E : Type 0} → Network I E → List (Seen E) → List Tick → List (Valuation E) → Option (ℤ × I)
fault_of n past [] vs = None
fault_of n past (t ∷ ts) [] = None
fault_of n past (t ∷ ts) (v ∷ vs) = or_later t.time (first_fault n past t v) (fault_of n (seen t v ∷ past) ts vs)

-- The same as `Solves`, tick by tick: at most one valuation a tick, each meets its equations, none before the last has a fault, and the last is that of the last tick or has one.
pub record Stated {I E : Type 0} (n : Network I E) (ts : List Tick) (vs : List (Valuation E)) : Type 0 where
  pub short : length vs ≤ length ts
  pub meets : (k : ℕ) (t : Tick) (v : Valuation E) → slice_get ts k ≡ Some t → slice_get vs k ≡ Some v → Meets n (after [] (take k ts) (take k vs)) t v
  pub calm : (k : ℕ) (t : Tick) (v : Valuation E) → suc k < length vs → slice_get ts k ≡ Some t → slice_get vs k ≡ Some v → first_fault n (after [] (take k ts) (take k vs)) t v ≡ None
  pub ends : (length vs ≡ length ts) ⊎ ((k : ℕ) × (t : Tick) × (v : Valuation E) × (suc k ≡ length vs) × (slice_get ts k ≡ Some t) × (slice_get vs k ≡ Some v) × (i : I) × (first_fault n (after [] (take k ts) (take k vs)) t v ≡ Some i))

-- a run so far without a fault
abbrev pub Runs : {I E : Type 0} → Network I E → List Tick → List (Valuation E) → Type 0
Runs n ts vs = Solves n [] ts vs × (fault_of n [] ts vs ≡ None)
