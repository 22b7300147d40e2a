-- Conditions that are kept hold.
use Rattle.std.proofs.Common.{◌≡◌, refl, [], ◌∷◌, Bool, true, false, None}
use Rattle.cdl_kinds.specs.Conditions.{first_broken}

-- the one condition of a kind holds where none is broken
pub one_holds : (a : Bool) → first_broken (a ∷ []) ≡ None → a ≡ true
one_holds true e = refl
one_holds false e = cc

-- both conditions of a kind hold
pub both_hold : (a b : Bool) → first_broken (a ∷ b ∷ []) ≡ None → (a ≡ true) × (b ≡ true)
both_hold true true e = (refl, refl)
both_hold true false e = cc
both_hold false b e = cc
