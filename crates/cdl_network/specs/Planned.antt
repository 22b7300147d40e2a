-- What the check and an order of a network give: each element has one origin, and walks end.
use Rattle.std.specs.Prelude.{ℕ, ℤ, ◌<◌, ◌≡◌, ◌≤◌, length, map, Bool, true, List, [], ◌∷◌, Some, None}
use Rattle.cdl_values.specs.History.{History, Meaning}
use Rattle.cdl_network.specs.Lists.{In, has_some}
use Rattle.cdl_network.specs.Network.{Network}
use Rattle.cdl_network.specs.Dependence.{Origin, HasOrigin, root_inputs, inputs_of, outputs_of, Determines, Walk}
use Rattle.cdl_network.specs.Ticks.{Valuation, Tick, Seen, Meets, first_fault}

-- the same words where the flag is set
abbrev pub SameWhere : List Bool → List ℤ → List ℤ → Type 0
SameWhere [] [] [] = Unit {0}
SameWhere [] [] (y ∷ ys) = ⊥
SameWhere [] (x ∷ xs) ys = ⊥
SameWhere (f ∷ fs) [] ys = ⊥
SameWhere (f ∷ fs) (x ∷ xs) [] = ⊥
SameWhere (f ∷ fs) (x ∷ xs) (y ∷ ys) = (f ≡ true → x ≡ y) × SameWhere fs xs ys

-- inputs that aren't direct have no part in a meaning
pub record DirectOnly {I E : Type 0} (n : Network I E) : Type 0 where
  pub same : (i : I) (h : History) (now : ℤ) (xs ys : List ℤ) → In i n.instances → n.elementary i ≡ true → SameWhere (map n.direct (inputs_of n i)) xs ys → n.meaning i h now xs ≡ n.meaning i h now ys

pub record Planned {I E : Type 0} (n : Network I E) (top : ℕ) : Type 0 where
  pub each : (x : E) → In x n.elements → (c : Origin I E) × HasOrigin n x c
  pub only : (x : E) (c d : Origin I E) → HasOrigin n x c → HasOrigin n x d → c ≡ d
  pub direct : DirectOnly n
  -- no walk is so long
  pub short : (x y : E) → Walk n x y top → ⊥

-- a function that gives each element its origin
abbrev pub Origins : {I E : Type 0} → Network I E → (E → Origin I E) → Type 0
Origins {I} {E} n origin = (x : E) → In x n.elements → HasOrigin n x (origin x)

-- a word for each input of the root, and a meaning with a word for each output
pub record Fits {I E : Type 0} (n : Network I E) (t : Tick) : Type 0 where
  pub row : length (root_inputs n) ≤ length t.row
  pub answers : (i : I) (h : History) (now : ℤ) (ws os : List ℤ) → n.meaning i h now ws ≡ Some os → length (outputs_of n i) ≤ length os

-- the same values at all elements
abbrev pub Agree : {I E : Type 0} → Network I E → Valuation E → Valuation E → Type 0
Agree {I} {E} n v w = (x : E) → In x n.elements → v x ≡ w x

abbrev pub AgreeAll : {I E : Type 0} → Network I E → List (Valuation E) → List (Valuation E) → Type 0
AgreeAll n [] [] = Unit {0}
AgreeAll n [] (w ∷ ws) = ⊥
AgreeAll n (v ∷ vs) [] = ⊥
AgreeAll n (v ∷ vs) (w ∷ ws) = Agree n v w × AgreeAll n vs ws

abbrev pub SamePast : {I E : Type 0} → Network I E → List (Seen E) → List (Seen E) → Type 0
SamePast n [] [] = Unit {0}
SamePast n [] (q ∷ qs) = ⊥
SamePast n (p ∷ ps) [] = ⊥
SamePast n (p ∷ ps) (q ∷ qs) = (p.time ≡ q.time) × Agree n p.value q.value × SamePast n ps qs

-- ticks that are over, each without a fault
abbrev pub IsPast : {I E : Type 0} → Network I E → List (Seen E) → Type 0
IsPast n [] = Unit {0}
IsPast n (p ∷ ps) = (t : Tick) × (t.time ≡ p.time) × Fits n t × Meets n ps t p.value × (first_fault n ps t p.value ≡ None) × IsPast n ps

abbrev pub AllFit : {I E : Type 0} → Network I E → List Tick → Type 0
AllFit n [] = Unit {0}
AllFit n (t ∷ ts) = Fits n t × AllFit n ts

-- At each tick of the history there is a meaning
abbrev pub HasMeanings : Meaning → History → Type 0
HasMeanings m [] = Unit {0}
HasMeanings m (t ∷ h) = (has_some (m h t.time t.ins) ≡ true) × HasMeanings m h

-- an order of the elements by places: each stands behind all that determines it
pub record Ordered {I E : Type 0} (n : Network I E) (place : E → ℕ) (top : ℕ) : Type 0 where
  pub below : (x : E) → In x n.elements → place x < top
  pub falls : (s x : E) → Determines n s x → place s < place x
