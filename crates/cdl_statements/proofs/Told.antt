-- Turns, as heads tell them.
use Rattle.std.proofs.Common.{◌≡◌, ℕ, sym, subst, Option, Some}
use Rattle.std.specs.Prelude.{ℤ}
use Rattle.cdl_stations.specs.Runs.{FailsAt}
use Rattle.cdl_statements.specs.Events.{Made, Turns, step, headed}
use Rattle.cdl_statements.specs.Places.{Spot, Fault}
use Rattle.cdl_joins.specs.Verdicts.{turns}

-- a head fails as its turns do
pub head_fails : (at : Spot) (bs : Option (ℤ × ℤ)) (low high : ℤ) (n : ℕ) (m : Made) (o : Option Fault) → bs ≡ Some (low, high) → n ≡ turns low high → FailsAt step m (Turns at n) o → FailsAt step m (headed at bs) o
head_fails at bs low high n m o e f h = subst (λ (z : Option (ℤ × ℤ)). FailsAt step m (headed at z) o) (sym e) (subst (λ (k : ℕ). FailsAt step m (Turns at k) o) f h)
