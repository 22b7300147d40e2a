-- The first broken rule by keys, where what came before may count.
use Rattle.std.specs.Prelude.{◌≡◌, List, [], ◌∷◌, ◌++◌, Result, Ok, Err}
use Rattle.cdl_stations.specs.Keys.{Key, Before, Lists, to}
use Rattle.cdl_stations.specs.Runs.{goes}

-- f is broken at the key: this event stands there, these stand at earlier keys, and behind them it is bad
pub record IsBroken {E F : Type 0} (Bad : List (Key × E) → E → F → Type 0) (S : Key → E → Type 0) (k : Key) (f : F) : Type 0 where
  pub earlier : List (Key × E)
  pub event : E
  pub lists : Lists (to S k) (earlier ++ (k, event) ∷ [])
  pub bad : Bad earlier event f

pub record NoneBroken {F : Type 0} (B : Key → F → Type 0) : Type 0 where
  pub none : (k : Key) (f : F) → B k f → ⊥

-- f is broken at a key, and nothing at a key before
pub record First {F : Type 0} (B : Key → F → Type 0) (f : F) : Type 0 where
  pub key : Key
  pub broken : B key f
  pub least : (k : Key) (g : F) → Before k key → B k g → ⊥
  pub alone : (g : F) → B key g → g ≡ f

-- the machine fails exactly at what is bad behind the events so far
pub record Agrees {M E F : Type 0} (step : M → E → Result M F) (start : M) (Bad : List (Key × E) → E → F → Type 0) : Type 0 where
  pub bad : (xs : List (Key × E)) (m : M) (e : E) (f : F) → goes step start xs ≡ Ok m → step m e ≡ Err f → Bad xs e f
  pub fails : (xs : List (Key × E)) (m : M) (e : E) (f : F) → goes step start xs ≡ Ok m → Bad xs e f → step m e ≡ Err f
