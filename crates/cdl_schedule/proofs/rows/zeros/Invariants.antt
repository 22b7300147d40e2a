use Rattle.std.proofs.Common.{◌≡◌, ℕ, get_or, length}
use Rattle.cdl_schedule.proofs.rows.zeros.Given as goal

abbrev pub invariant-loop : goal.invariant-loop
invariant-loop l = (length l.v.items ≡ l.counter) × ((x : ℕ) → get_or l.v.items x 0 ≡ 0)
