-- Words, ticks and histories.
use Rattle.std.specs.Prelude.{ℕ, ◌-◌, ◌<◌, ◌≤◌, ◌≡◌, ◌⊎◌, ℤ, pos, negsuc, ◌≤ℤ◌, ◌<ℤ◌, Bool, true, false, cond, not, ◌&&◌, List, [], ◌∷◌, Option, Some, None, IsSome, length, unsigned_abs, nat_le, nat_lt, slice_index_or}
use Rattle.cdl_source.specs.declared.limits.TheConstants.{LARGEST_INTEGER, LATEST_TIME}
use Rattle.std.specs.Ordering.{int_eq}
use Rattle.cdl_decimal.specs.Near.{InRange}
use Rattle.cdl_values.specs.declared.value.ValueType.{ValueType}
use Rattle.cdl_values.specs.declared.value.ValueType.TheVariants.{Boolean, Integer, Real}

-- the word of 'no value'
abbrev pub no_value : ℤ
no_value = negsuc 9223372036854775807

-- the word of that number; past the end 0, which no clause asks for
abbrev pub word : List ℤ → ℕ → ℤ
word xs i = slice_index_or xs i (pos 0)

-- the word of a Boolean, and the Boolean of a word
abbrev pub bit : Bool → ℤ
bit b = cond b (pos 1) (pos 0)

abbrev pub is_on : ℤ → Bool
is_on w = int_eq w (pos 1)

-- one tick of a block: its time in milliseconds, and a word for each input
pub record Tick : Type 0 where
  pub time : ℤ
  pub ins : List ℤ

abbrev pub tick : ℤ → List ℤ → Tick
tick now x = record { time = now; ins = x }

-- the latest tick first
abbrev pub History : Type 0
History = List Tick

-- what a block gives at a time, after these ticks and with these inputs, or none
abbrev pub Meaning : Type 0
Meaning = History → ℤ → List ℤ → Option (List ℤ)

-- a word that is a value of the type
abbrev pub IsValue : ValueType → ℤ → Type 0
IsValue Boolean w = (w ≡ pos 0) ⊎ (w ≡ pos 1)
IsValue Integer w = unsigned_abs w ≤ LARGEST_INTEGER
IsValue Real w = InRange w
IsValue _ w = ⊥

-- what the inputs of a block are, or its outputs: how many, and of each its type and whether the outputs rest on it at once
pub record Signature : Type 0 where
  pub count : ℕ
  pub value_type : ℕ → ValueType
  pub direct : ℕ → Bool

-- so many of one type, each direct
abbrev pub booleans : ℕ → Signature
booleans n = record { count = n; value_type = λ _. Boolean; direct = λ _. true }

abbrev pub integers : ℕ → Signature
integers n = record { count = n; value_type = λ _. Integer; direct = λ _. true }

abbrev pub reals : ℕ → Signature
reals n = record { count = n; value_type = λ _. Real; direct = λ _. true }

-- the type of that number, and past the last one the last
abbrev pub nth_type : List ValueType → ℕ → ValueType
nth_type [] i = Boolean
nth_type (t ∷ []) i = t
nth_type (t ∷ s ∷ ts) i = cond (nat_lt i 1) t (nth_type (s ∷ ts) (i - 1))

-- one of each of these types, in order, each direct
abbrev pub typed : List ValueType → Signature
typed ts = record { count = length ts; value_type = nth_type ts; direct = λ _. true }

-- one of this type that is not direct
abbrev pub later : ValueType → Signature
later t = record { count = 1; value_type = λ _. t; direct = λ _. false }

-- each has a value of its type
pub record AreValues (p : Signature) (xs : List ℤ) : Type 0 where
  pub size : length xs ≡ p.count
  pub each : (i : ℕ) → i < p.count → IsValue (p.value_type i) (word xs i)

-- each direct input has a value of its type
pub record AreReady (p : Signature) (xs : List ℤ) : Type 0 where
  pub size : length xs ≡ p.count
  pub each : (i : ℕ) → i < p.count → p.direct i ≡ true → IsValue (p.value_type i) (word xs i)

-- the direct inputs are the same
pub record SameDirect (p : Signature) (x y : List ℤ) : Type 0 where
  pub size : length x ≡ length y
  pub count : length x ≡ p.count
  pub each : (i : ℕ) → i < p.count → p.direct i ≡ true → word x i ≡ word y i

-- a time of a tick: from 0 to 10^13 milliseconds
abbrev pub IsTime : ℤ → Type 0
IsTime t = (pos 0 ≤ℤ t) × (t ≤ℤ pos LATEST_TIME)

-- the time is later than each tick of the history
abbrev pub IsLater : ℤ → History → Type 0
IsLater now [] = Unit {0}
IsLater now (t ∷ h) = t.time <ℤ now

-- the time of the latest tick, or -1 before any
abbrev pub last_time : History → ℤ
last_time [] = negsuc 0
last_time (t ∷ h) = t.time

-- times rise, inputs are values, and at each tick the meaning has a value
abbrev pub HistoryBy : Signature → (History → ℤ → List ℤ → Option (List ℤ)) → History → Type 0
HistoryBy p m [] = Unit {0}
HistoryBy p m (t ∷ h) = IsTime t.time × IsLater t.time h × AreValues p t.ins × IsSome (m h t.time t.ins) × HistoryBy p m h

-- a history of a block whose inputs and meaning are these
pub record IsHistory (p : Signature) (m : History → ℤ → List ℤ → Option (List ℤ)) (h : History) : Type 0 where
  pub ticks : HistoryBy p m h

-- the word of an input at the latest tick, or this one before any
abbrev pub before : ℤ → ℕ → History → ℤ
before w i [] = w
before w i (t ∷ h) = word t.ins i

-- not the first tick, and the input is true and was false at the tick before
abbrev pub rises : History → List ℤ → ℕ → Bool
rises [] x i = false
rises (t ∷ h) x i = is_on (word x i) && not (is_on (word t.ins i))

-- the input rises, or this is the first tick and it is true
abbrev pub starts : History → List ℤ → ℕ → Bool
starts [] x i = is_on (word x i)
starts (t ∷ h) x i = is_on (word x i) && not (is_on (word t.ins i))

-- one output that is a Boolean
abbrev pub flag : Bool → Option (List ℤ)
flag b = Some (bit b ∷ [])

-- one output, where there is a value
abbrev pub one : Option ℤ → Option (List ℤ)
one None = None
one (Some z) = Some (z ∷ [])

-- one output that is an Integer, where it is in range
abbrev pub integer : ℤ → Option (List ℤ)
integer z = cond (nat_le (unsigned_abs z) LARGEST_INTEGER) (Some (z ∷ [])) None
