-- Keys, their order from the left, and lists of what stands at keys.
use Rattle.std.specs.Prelude.{ℕ, ◌<◌, ◌≡◌, ◌⊎◌, List, [], ◌∷◌}

abbrev pub Key : Type 0
Key = List ℕ

-- a key comes before another, and before its extensions
abbrev pub Before : Key → Key → Type 0
Before k [] = ⊥
Before [] (n ∷ l) = Unit {0}
Before (m ∷ k) (n ∷ l) = (m < n) ⊎ ((m ≡ n) × Before k l)

-- two keys: one comes before the other, or they are the same
pub data Compared (j k : Key) : Type 0 where
  earlier : Before j k → Compared j k
  same : j ≡ k → Compared j k
  later : Before k j → Compared j k

abbrev pub In : {X : Type 0} → X → List X → Type 0
In y [] = ⊥
In y (x ∷ xs) = (y ≡ x) ⊎ In y xs

abbrev pub Sorted : {E : Type 0} → List (Key × E) → Type 0
Sorted [] = Unit {0}
Sorted {E} (x ∷ xs) = ((k : Key) (e : E) → In (k, e) xs → Before x.0 k) × Sorted xs

-- a family S says what stands at a key; these are all that stand at keys, in order
pub record Lists {E : Type 0} (S : Key → E → Type 0) (xs : List (Key × E)) : Type 0 where
  pub each : (k : Key) (e : E) → S k e → In (k, e) xs
  pub only : (k : Key) (e : E) → In (k, e) xs → S k e
  pub sorted : Sorted xs

-- at keys below this number
abbrev pub under : {E : Type 0} → (Key → E → Type 0) → ℕ → Key → E → Type 0
under S i k e = S (i ∷ k) e

abbrev pub Below : ℕ → Key → Type 0
Below i [] = Unit {0}
Below i (j ∷ k) = j < i

-- at the key itself, and at keys below smaller numbers
abbrev pub upto : {E : Type 0} → (Key → E → Type 0) → ℕ → Key → E → Type 0
upto S i k e = Below i k × S k e

-- at keys up to this one
abbrev pub to : {E : Type 0} → (Key → E → Type 0) → Key → Key → E → Type 0
to S k j e = (Before j k ⊎ (j ≡ k)) × S j e
