-- A machine that takes events in the order of their keys, until one fails.
use Rattle.std.specs.Prelude.{◌≡◌, List, [], ◌∷◌, ◌++◌, Result, Ok, Err, Option, Some, None}
use Rattle.cdl_stations.specs.Keys.{Key, Lists, to}

abbrev pub on_ok : {A B F : Type 0} → Result A F → (A → Result B F) → Result B F
on_ok (Ok a) f = f a
on_ok (Err e) f = Err e

-- the state behind these events
abbrev pub goes : {M E F : Type 0} → (M → E → Result M F) → M → List (Key × E) → Result M F
goes step m [] = Ok m
goes step m (x ∷ xs) = on_ok (step m x.1) (λ n. goes step n xs)

-- all events of S go, from one state to the other
pub record Went {M E F : Type 0} (step : M → E → Result M F) (S : Key → E → Type 0) (old new : M) : Type 0 where
  pub entries : List (Key × E)
  pub lists : Lists S entries
  pub goes : goes step old entries ≡ Ok new

-- the events before a key go, and the one at the key fails
pub record Stops {M E F : Type 0} (step : M → E → Result M F) (S : Key → E → Type 0) (old : M) (f : F) : Type 0 where
  pub entries : List (Key × E)
  pub at : Key
  pub event : E
  pub lists : Lists (to S at) (entries ++ (at, event) ∷ [])
  pub state : M
  pub goes : goes step old entries ≡ Ok state
  pub fails : step state event ≡ Err f

-- what is known of an answer that may hide its fault, as one that memory ran out
abbrev pub StopsAt : {M E F : Type 0} → (M → E → Result M F) → (Key → E → Type 0) → M → Option F → Type 0
StopsAt step S m None = Unit {0}
StopsAt step S m (Some f) = Stops step S m f

-- an answer to all events of a family, where view says what fault an error is
abbrev pub Runs : {A X M E F : Type 0} → (X → Option F) → (M → E → Result M F) → (Key → E → Type 0) → M → Result A X → M → Type 0
Runs view step S m (Ok a) n = Went step S m n
Runs view step S m (Err x) n = StopsAt step S m (view x)

abbrev pub FailsAt : {M E F : Type 0} → (M → E → Result M F) → M → E → Option F → Type 0
FailsAt step m e None = Unit {0}
FailsAt step m e (Some f) = step m e ≡ Err f

-- an answer to one event
abbrev pub Takes : {A X M E F : Type 0} → (X → Option F) → (M → E → Result M F) → M → E → Result A X → M → Type 0
Takes view step m e (Ok a) n = step m e ≡ Ok n
Takes view step m e (Err x) n = FailsAt step m e (view x)
