-- The window of a moving mean in its words.
use Rattle.std.specs.Prelude.{ℕ, ℤ, ◌≡◌, ◌⊎◌, ◌≤ℤ◌, pos, negsuc, Bool, cond, not, ◌&&◌, ◌||◌, List, ◌∷◌, drop, take, unsigned_abs}
use Rattle.std.specs.Ordering.{int_eq}
use Rattle.cdl_values.specs.History.{IsValue, is_on, word}
use Rattle.cdl_values.specs.declared.value.ValueType.TheVariants.{Boolean}

-- there was a tick
abbrev pub has_ticks : ℤ → Bool
has_ticks trigger = not (int_eq trigger (negsuc 0))

-- u is picked: at the first tick, or where trigger rises, from the word of the trigger before
abbrev pub picks_now : ℤ → List ℤ → Bool
picks_now trigger x = not (has_ticks trigger) || (is_on (word x 1) && not (is_on trigger))

-- the samples that the words hold, the latest first
abbrev pub window : List ℤ → List ℤ
window s = take (unsigned_abs (word s 1)) (drop 3 s)

-- with this sample in front where it is picked, and no more than n
abbrev pub window_next : ℕ → Bool → ℤ → List ℤ → List ℤ
window_next n picked u w = cond picked (take n (u ∷ w)) w

-- how many samples a trigger and a count tell: none before any tick, else one at least and n at most
abbrev pub HasCount : ℕ → List ℤ → Type 0
HasCount n s = ((word s 0 ≡ negsuc 0) × (word s 1 ≡ pos 0)) ⊎ (IsValue Boolean (word s 0) × (pos 1 ≤ℤ word s 1) × (word s 1 ≤ℤ pos n))
