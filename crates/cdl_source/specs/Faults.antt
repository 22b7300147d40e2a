-- Which calls of an object in memory fail.
use Rattle.std.specs.Prelude.{ℕ, ◌+◌, ◌-◌, ◌^◌, ◌==◌, min, Bool, List, [], ◌∷◌, ◌++◌, if◌then◌else◌}
use Rattle.std.specs.List.{list_any}

-- the number of calls so far, the numbers of those that fail, and the count of faults
pub record CallFaults : Type 0 where
  pub calls : ℕ
  pub failing : List ℕ
  pub faults : ℕ

-- the last number that a count reaches
abbrev pub last_count : ℕ
last_count = 2 ^ 64 - 1

-- one more, up to the last
abbrev pub next_count : ℕ → ℕ
next_count n = min (n + 1) last_count

-- The next call is one of those that fail.
abbrev pub fails_next : CallFaults → Bool
fails_next p = list_any (λ n. n == next_count p.calls) p.failing

-- after one more call, which failed or not
abbrev pub calls_after : CallFaults → Bool → CallFaults
calls_after p failed =
    record { calls = next_count p.calls; failing = p.failing; faults = if failed then next_count p.faults else p.faults }

-- with one more call that fails
abbrev pub calls_with : CallFaults → ℕ → CallFaults
calls_with p call = record { calls = p.calls; failing = p.failing ++ call ∷ []; faults = p.faults }
