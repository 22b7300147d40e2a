-- Blocks in which the ticks before and the time have no part.
use Rattle.std.specs.Prelude.{ℤ, pos, true, List, [], Option}
use Rattle.cdl_values.specs.History.{Signature, Meaning}

-- what such a meaning gives for these inputs
abbrev pub at_once : Meaning → List ℤ → Option (List ℤ)
at_once m x = m [] (pos 0) x

-- the same inputs, each direct
abbrev pub all_direct : Signature → Signature
all_direct p = record { count = p.count; value_type = p.value_type; direct = λ _. true }
