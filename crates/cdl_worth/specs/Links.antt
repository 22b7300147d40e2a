-- How many links a value needs.
use Rattle.std.specs.Prelude.{ℕ, ◌≡◌, ◌≤◌, cond, nat_le, Ok, Err}
use Rattle.cdl_source.specs.declared.rules.TheConstants.{PARAMETERS_TOO_DEEP}
use Rattle.cdl_array.specs.Outcomes.{Outcome}

-- what more links may change: nothing, but for an answer that is too deep
pub data Within {A : Type 0} (x y : Outcome A) : Type 0 where
  too_deep : x ≡ Err PARAMETERS_TOO_DEEP → Within x y
  same : x ≡ y → Within x y

-- what is worth this needs so many links: with fewer it is too deep
abbrev pub limited : {A : Type 0} → A → ℕ → ℕ → Outcome A
limited v k d = cond (nat_le k d) (Ok v) (Err PARAMETERS_TOO_DEEP)

-- for each number of links: this where there are enough, else too deep
pub record Settles {A : Type 0} (f : ℕ → Outcome A) (v : A) (k : ℕ) : Type 0 where
  pub each : (d : ℕ) → f d ≡ limited v k d

-- what more links don't change, once it is not too deep
pub record Lasts {A : Type 0} (f : ℕ → Outcome A) : Type 0 where
  pub more : (k d : ℕ) → k ≤ d → Within (f k) (f d)
