-- What constants, conversions and replicators mean.
use Rattle.std.specs.Prelude.{ℕ, ℤ, pos, ◌*ℤ◌, cond, [], ◌∷◌, Some, replicate}
use Rattle.cdl_decimal.specs.Counts.{real_to_integer}
use Rattle.cdl_values.specs.History.{Meaning, word, is_on, one}

abbrev pub constant : ℤ → Meaning
constant k h now x = Some (k ∷ [])

-- the first word if u, else the second
abbrev pub choice : ℤ → ℤ → Meaning
choice a b h now x = Some (cond (is_on (word x 0)) a b ∷ [])

abbrev pub integer_to_real : Meaning
integer_to_real h now x = Some ((word x 0 *ℤ pos 1000000) ∷ [])

abbrev pub to_nearest_integer : Meaning
to_nearest_integer h now x = one (real_to_integer (word x 0))

-- each of so many outputs is u
abbrev pub replicator : ℕ → Meaning
replicator n h now x = Some (replicate n (word x 0))
