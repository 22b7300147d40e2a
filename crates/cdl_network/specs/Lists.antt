-- Words on lists: members, all that have a property, places, and the first of a kind.
use Rattle.std.specs.Prelude.{ℕ, zero, suc, ◌≡◌, ◌⊎◌, Bool, true, false, cond, List, [], ◌∷◌, Option, Some, None}

-- the item stands in the list
abbrev pub In : {A : Type 0} → A → List A → Type 0
In x [] = ⊥
In x (y ∷ ys) = (x ≡ y) ⊎ In x ys

-- no item stands twice
abbrev pub Apart : {A : Type 0} → List A → Type 0
Apart [] = Unit {0}
Apart (x ∷ xs) = (In x xs → ⊥) × Apart xs

-- each item comes before those behind it
abbrev pub Sorted : {A : Type 0} → (A → A → Type 0) → List A → Type 0
Sorted Before [] = Unit {0}
Sorted {A} Before (x ∷ xs) = ((y : A) → In y xs → Before x y) × Sorted Before xs

-- The list of all that have the property, in order. Where no two come before each other there is one such list at most.
pub record Lists {A : Type 0} (Before : A → A → Type 0) (P : A → Type 0) (xs : List A) : Type 0 where
  pub each : (x : A) → P x → In x xs
  pub only : (x : A) → In x xs → P x
  pub sorted : Sorted Before xs

-- the test tells which names are the same
pub record Tells {A : Type 0} (same : A → A → Bool) : Type 0 where
  pub yes : (x y : A) → same x y ≡ true → x ≡ y
  pub self : (x : A) → same x x ≡ true

-- the place of a name in a list, by a test of names
abbrev pub number : {A : Type 0} → (A → A → Bool) → List A → A → ℕ
number same [] x = 0
number same (y ∷ ys) x = cond (same x y) 0 (suc (number same ys x))

-- n numbers from a on
abbrev pub numbers : ℕ → ℕ → List ℕ
numbers a zero = []
numbers a (suc n) = a ∷ numbers (suc a) n

abbrev pub has_some : {A : Type 0} → Option A → Bool
has_some None = false
has_some (Some p) = true

-- how many items pass the test
abbrev pub count : {A : Type 0} → (A → Bool) → List A → ℕ
count f [] = 0
count f (x ∷ xs) = cond (f x) (suc (count f xs)) (count f xs)

-- the first item of a list with a fault, and its fault
abbrev pub found : {A F : Type 0} → A → Option F → Option (A × F) → Option (A × F)
found x None later = later
found x (Some r) later = Some (x, r)

abbrev pub first_of : {A F : Type 0} → (A → Option F) → List A → Option (A × F)
first_of f [] = None
first_of f (x ∷ xs) = found x (f x) (first_of f xs)

-- the first item that passes the test
abbrev pub first_that : {A : Type 0} → (A → Bool) → List A → Option A
first_that f [] = None
first_that f (x ∷ xs) = cond (f x) (Some x) (first_that f xs)
