-- Times that are added up.
use Rattle.std.specs.Prelude.{ℤ, pos, negsuc, ◌≡◌, ◌+ℤ◌, ◌*ℤ◌, ◌≤ℤ◌, Bool, false, cond, not, ◌&&◌, List}
use Rattle.cdl_values.specs.History.{is_on, word}
use Rattle.cdl_kinds.specs.Meaning.Timers.{elapsed}

-- what was added up to a last tick at which u was so: no more than the time, and before any tick nothing
pub record IsSum (sum last : ℤ) (u : Bool) : Type 0 where
  pub low : negsuc 0 ≤ℤ last
  pub none : last ≡ negsuc 0 → (sum ≡ pos 0) × (u ≡ false)
  pub some : pos 0 ≤ℤ last → (pos 0 ≤ℤ sum) × (sum ≤ℤ (last *ℤ pos 1000))

-- the sum at a tick, from the sum, the time and both inputs at the tick before
abbrev pub sum_next : ℤ → ℤ → Bool → Bool → ℤ → List ℤ → ℤ
sum_next sum last u reset now x = cond (is_on (word x 1) && not reset) (pos 0) (sum +ℤ cond u (elapsed last now) (pos 0))

-- so much was added up in these words
abbrev pub HasSum : List ℤ → Type 0
HasSum s = (word s 1 ≡ negsuc 0 → (word s 0 ≡ pos 0) × (word s 2 ≡ pos 0)) × (pos 0 ≤ℤ word s 1 → (pos 0 ≤ℤ word s 0) × (word s 0 ≤ℤ (word s 1 *ℤ pos 1000)))
