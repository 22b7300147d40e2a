-- What holds of answers that more links change only where they are too deep.
use Rattle.std.proofs.Common.{ℕ, zero, suc, ◌≡◌, ◌<◌, ◌≤◌, sym, ◌∙◌, arith, inl, inr, Ok, Err}
use Rattle.std.proofs.lemmas.Bool.Decides.{nat_tests}
use Rattle.std.proofs.lemmas.Bool.{cases_lt}
use Rattle.cdl_source.specs.declared.rules.TheConstants.{PARAMETERS_TOO_DEEP}
use Rattle.cdl_array.specs.Outcomes.{Outcome}
use Rattle.cdl_worth.specs.Links.{Within, too_deep, same, Lasts, Settles, limited}

pub value_lasts : {A : Type 0} (x y : Outcome A) (v : A) → Within x y → x ≡ Ok v → y ≡ Ok v
value_lasts x y v (too_deep t) e = absurd (cc)
value_lasts x y v (same s) e = sym s ∙ e

pub fault_lasts : {A : Type 0} (x y : Outcome A) (r : ℕ) → Within x y → (r ≡ PARAMETERS_TOO_DEEP → ⊥) → x ≡ Err r → y ≡ Err r
fault_lasts x y r (too_deep t) n e = absurd (n cc)
fault_lasts x y r (same s) n e = sym s ∙ e

-- with fewer links it is too deep as well
fewer : {A : Type 0} (x y : Outcome A) → Within x y → y ≡ Err PARAMETERS_TOO_DEEP → x ≡ Err PARAMETERS_TOO_DEEP
fewer x y (too_deep t) e = t
fewer x y (same s) e = s ∙ e

at_least : {A : Type 0} (f : ℕ → Outcome A) → Lasts f → (k : ℕ) (v : A) → f k ≡ Ok v → (d : ℕ) → k ≤ d → f d ≡ limited v k d
at_least f l k v e d le = value_lasts (f k) (f d) v (l.more k d le) e ∙ grind (arith, nat_tests, le)

at_once : {A : Type 0} (f : ℕ → Outcome A) → Lasts f → (v : A) → f 0 ≡ Ok v → Settles f v 0
at_once f l v e = record { each = λ d. at_least f l 0 v e d (omega arith) }

before : {A : Type 0} (f : ℕ → Outcome A) → Lasts f → (k : ℕ) (v : A) → f k ≡ Err PARAMETERS_TOO_DEEP → (d : ℕ) → d < suc k → f d ≡ limited v (suc k) d
before f l k v e d lt = fewer (f d) (f k) (l.more d k (omega (arith, lt))) e ∙ grind (arith, nat_tests, lt)

first_here : {A : Type 0} (f : ℕ → Outcome A) → Lasts f → (k : ℕ) (v : A) → f k ≡ Err PARAMETERS_TOO_DEEP → f (suc k) ≡ Ok v → (d : ℕ) → f d ≡ limited v (suc k) d
first_here f l k v e h d = elim (cases_lt d (suc k)) [ inl lt ↦ before f l k v e d lt | inr le ↦ at_least f l (suc k) v h d le ]

-- the last but one number of links tells
by_last : {A : Type 0} (f : ℕ → Outcome A) → Lasts f → (d : ℕ) (v : A) → f (suc d) ≡ Ok v → (f d ≡ Ok v → (k : ℕ) × (k ≤ d) × Settles f v k) → Within (f d) (f (suc d)) → (k : ℕ) × (k ≤ suc d) × Settles f v k
by_last f l d v e h (too_deep t) = (suc d, omega arith, record { each = first_here f l d v t e })
by_last f l d v e h (same s) = let p = h (s ∙ e) in let le = p.1 in (p.0, omega (arith, le), p.2)

pub least : {A : Type 0} (f : ℕ → Outcome A) → Lasts f → (d : ℕ) (v : A) → f d ≡ Ok v → (k : ℕ) × (k ≤ d) × Settles f v k
least f l zero v e = (0, omega arith, at_once f l v e)
least f l (suc d) v e = by_last f l d v e (λ h. least f l d v h) (l.more d (suc d) (omega arith))
