-- The texts of paths: steps, and whole arrays of steps.
use Rattle.std.specs.Prelude.{ℕ, ◌+◌, ◌*◌, ◌<◌, ◌≤◌, ◌≡◌, ◌==◌, Bool, false, cond, List, [], ◌∷◌, ◌++◌, map, codes, IsTrue}
use Rattle.std.specs.List.{flat_map}
use Rattle.cdl_network.specs.Lists.{In, Apart, numbers}
use Rattle.cdl_source.specs.Identifiers.{is_identifier}
use Rattle.cdl_source.specs.declared.limits.TheConstants.{LARGEST_SIZE, MOST_ITEMS}

-- one step of a path: its identifier, and its indices, none or one or two of them
pub record Step : Type 0 where
  pub name : List ℕ
  pub indices : List ℕ

-- the digits of a number, without a leading zero
pub data IsDecimal : ℕ → List ℕ → Type 0 where
  digit : (n : ℕ) → n < 10 → IsDecimal n ((n + 48) ∷ [])
  more : (n d : ℕ) (text : List ℕ) → 0 < n → d < 10 → IsDecimal n text → IsDecimal (n * 10 + d) (text ++ (d + 48) ∷ [])

-- the text of a step's indices: `[k]`, or `[k,l]`, or nothing
pub data IsIndexText : List ℕ → List ℕ → Type 0 where
  none : IsIndexText [] []
  one : (k : ℕ) (a : List ℕ) → IsDecimal k a → IsIndexText (k ∷ []) (codes "[" ++ a ++ codes "]")
  two : (k l : ℕ) (a b : List ℕ) → IsDecimal k a → IsDecimal l b → IsIndexText (k ∷ l ∷ []) (codes "[" ++ a ++ codes "," ++ b ++ codes "]")

pub record IsStepText (s : Step) (whole : List ℕ) : Type 0 where
  pub identifier : IsTrue (is_identifier s.name)
  pub indices : List ℕ
  pub spelled : IsIndexText s.indices indices
  pub text : whole ≡ s.name ++ indices

-- the text of a path, extended by that of a step
abbrev pub is_root_path : List ℕ → Bool
is_root_path (c ∷ []) = c == 35
is_root_path path = false

abbrev pub extended : List ℕ → List ℕ → List ℕ
extended path step = cond (is_root_path path) (path ++ step) (path ++ codes "." ++ step)

-- an array of steps of one identifier: a single one, a row of n, or m rows of n
pub data Sizes : Type 0 where
  Single : Sizes
  Row : (n : ℕ) → Sizes
  Grid : (m n : ℕ) → Sizes

abbrev pub array_steps : List ℕ → Sizes → List Step
array_steps name Single = record { name = name; indices = [] } ∷ []
array_steps name (Row n) = map (λ k. record { name = name; indices = k ∷ [] }) (numbers 1 n)
array_steps name (Grid m n) = flat_map (λ k. map (λ l. record { name = name; indices = k ∷ l ∷ [] }) (numbers 1 n)) (numbers 1 m)

-- each size is from 1 to 4,096, and an array has at most 65,536 items
abbrev pub AreSizes : Sizes → Type 0
AreSizes Single = Unit {0}
AreSizes (Row n) = (1 ≤ n) × (n ≤ LARGEST_SIZE)
AreSizes (Grid m n) = (1 ≤ m) × (m ≤ LARGEST_SIZE) × (1 ≤ n) × (n ≤ LARGEST_SIZE) × (m * n ≤ MOST_ITEMS)

pub record ArrayOf : Type 0 where
  pub name : List ℕ
  pub sizes : Sizes

abbrev pub steps_of : ArrayOf → List Step
steps_of a = array_steps a.name a.sizes

-- these are all the steps of whole arrays, one behind the other, and no identifier has two of them
pub record AreArrays (arrays : List ArrayOf) (all : List Step) : Type 0 where
  pub steps : all ≡ flat_map steps_of arrays
  pub sizes : (a : ArrayOf) → In a arrays → AreSizes a.sizes
  pub apart : Apart (map (λ a. a.name) arrays)
