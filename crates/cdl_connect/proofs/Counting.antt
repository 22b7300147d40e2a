-- Counting one wire more.
use Rattle.std.proofs.Common.{ℕ, zero, suc, ◌+◌, ◌<◌, ◌≡◌, ◌==◌, inl, inr, refl, sym, ap, ◌∙◌, true, false, eqb, eq-eqb, List, length, take, get_or, set, arith, Option, Some, None, slice_get, count_by}
use Rattle.std.proofs.lemmas.List.{get_or-set_same, get_or-set_other}
use Rattle.std.proofs.lemmas.List.Sums.{count_by_more_yes, count_by_more_no}
use Rattle.std.proofs.lemmas.Option.{slice_get_read}
use Rattle.cdl_source.specs.declared.rules.TheConstants.{MORE_THAN_ONE_SOURCE}
use Rattle.cdl_network.specs.Rules.{fault_by}
use Rattle.std.proofs.lemmas.Bool.{cases_eq, ne_eqb}

-- a table of counts, after the count at one place was raised
pub counts_next : {X : Type 0} (f : X → ℕ) (xs : List X) (i : ℕ) (x : X) (counts : List ℕ) (n : ℕ) → i < length xs → get_or xs i x ≡ x → length counts ≡ n → f x < n → ((e : ℕ) → e < n → get_or counts e 0 ≡ count_by (λ w. f w == e) (take i xs)) → (e : ℕ) → e < n → get_or (set counts (f x) (get_or counts (f x) 0 + 1)) e 0 ≡ count_by (λ w. f w == e) (take (i + 1) xs)
counts_next f xs i x counts n h r l g c e k = elim (cases_eq (f x) e) as (λ _. get_or (set counts (f x) (get_or counts (f x) 0 + 1)) e 0 ≡ count_by (λ w. f w == e) (take (i + 1) xs)) [
  | inl q ↦
      let y : eqb (f (get_or xs i x)) e ≡ true = rw (r, q) (eq-eqb e e refl) in
      let m = count_by_more_yes (λ w. f w == e) xs i x h y in
      let a : f x < length counts = omega (arith, l) in
      let b : get_or (set counts e (get_or counts e 0 + 1)) e 0 ≡ get_or counts e 0 + 1 = get_or-set_same counts e (get_or counts e 0 + 1) 0 (omega (arith, l)) in
      rw q (b ∙ ap (λ (z : ℕ). z + 1) (c e k) ∙ sym m)
  | inr q ↦
      let y : eqb (f (get_or xs i x)) e ≡ false = rw r (ne_eqb (f x) e q) in
      get_or-set_other counts (f x) e (get_or counts (f x) 0 + 1) 0 (λ z. q (sym z)) ∙ c e k ∙ sym (count_by_more_no (λ w. f w == e) xs i x h y)
]

-- what holds of each element below i, and of the next
pub each_next : {X Y : Type 0} (f : X → Option Y) (xs : List X) (i : ℕ) (x : X) → i < length xs → get_or xs i x ≡ x → f x ≡ None → ((j : ℕ) (w : X) → j < i → slice_get xs j ≡ Some w → f w ≡ None) → (j : ℕ) (w : X) → j < i + 1 → slice_get xs j ≡ Some w → f w ≡ None
each_next f xs i x h r e g j w k s = elim (cases_eq j i) as (λ _. f w ≡ None) [
  | inl q ↦
      let a : slice_get xs i ≡ Some x = slice_get_read xs (length xs) i x refl h (sym r) in
      let b : Some w ≡ Some x = sym s ∙ ap (λ (z : ℕ). slice_get xs z) q ∙ a in
      let d : w ≡ x = cc in
      rw d e
  | inr q ↦ g j w (omega (arith, q)) s
]

-- two or more wires
pub many_sources : (k : ℕ) → (k ≡ 0 → ⊥) → (k ≡ 1 → ⊥) → fault_by true k ≡ Some MORE_THAN_ONE_SOURCE
many_sources zero f g = absurd (f refl)
many_sources (suc zero) f g = absurd (g refl)
many_sources (suc (suc k)) f g = refl
