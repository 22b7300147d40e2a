-- The first place of a fault.
use Rattle.std.specs.Prelude.{ℕ, ◌<◌, Option, Some, None}

-- This is the first place that has the property, or none has it.
abbrev pub IsFirst : (ℕ → Type 0) → Option ℕ → Type 0
IsFirst P None = (at : ℕ) → P at → ⊥
IsFirst P (Some at) = P at × ((earlier : ℕ) → earlier < at → P earlier → ⊥)
