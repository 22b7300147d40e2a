use Rattle.std.proofs.Common.{ℕ, ◌<◌}
use Rattle.cdl_values.specs.History.{IsValue, word}
use Rattle.cdl_pass.specs.Net.{sort_at}
use Rattle.cdl_run_tests.proofs.roots.is_row.Given as goal

abbrev pub invariant-loop-i : goal.invariant-loop-i
invariant-loop-i l = (k : ℕ) → k < l.i → IsValue (sort_at l.rows k) (word l.row k)
