-- The rounded quotient is the nearest whole number, and there is one.
use Rattle.std.proofs.Common.{ℕ, zero, suc, ◌+◌, ◌*◌, ◌-◌, ◌/◌, ◌%◌, ◌<◌, ◌≤◌, ◌≡◌, refl, sym, ap, ◌∙◌, true, false, arith, lit<, ◌⊎◌, inl, inr, subst}
use Rattle.std.proofs.lemmas.Int.{ints, by_lt_z, unsigned_abs-mul}
use Rattle.std.proofs.lemmas.Bool.Decides.{nat_tests}
use Rattle.std.specs.Prelude.{ℤ, pos, negsuc, ◌+ℤ◌, ◌-ℤ◌, ◌*ℤ◌, ◌<ℤ◌, unsigned_abs, neg_ℤ}
use Rattle.std.specs.Int.{int_div_euclid, int_rem_euclid}
use Rattle.std.proofs.Math.IntN.{+ℤ_one, suc_ℤ-*ℤ, *ℤ_comm, *ℤ-negsuc}
use Rattle.std.proofs.Math.Nat.{div-add-mod', mod-lt, mul-le-mul_right, suc-mul}
use borrow.Author.Differences.{up, down}
use Rattle.std.specs.Prelude.{Option, Some, IsSomeAnd, nat_le, ◌≤ℤ◌}
use Rattle.std.proofs.lemmas.Bool.{cases_lt, le-leb}
use Rattle.cdl_decimal.specs.Counts.{floor_whole, nearest_whole, IsNearestWhole}
use Rattle.cdl_decimal.specs.Near.{IsFloor, InRange, IsNear, near, nearest, rounds_down, near_signed, modulo_of, in_range, RoundsTo, IsModulo}

-- n is the quotient times d, and what is left
pub euclid : (n : ℤ) (d : ℕ) → 0 < d → n -ℤ int_div_euclid n (pos d) *ℤ pos d ≡ pos (unsigned_abs (int_rem_euclid n (pos d)))
euclid (pos a) d h = omega (arith, ints, div-add-mod' a d)
euclid (negsuc a) d h = omega (arith, ints, div-add-mod' a d, mod-lt a h, suc-mul (a / d) d)

pub left_below : (n : ℤ) (d : ℕ) → 0 < d → unsigned_abs (int_rem_euclid n (pos d)) < d
left_below (pos a) d h = mod-lt a h
left_below (negsuc a) d h = omega (arith, mod-lt a h)

next_product : (q : ℤ) (d : ℕ) → (q +ℤ pos 1) *ℤ pos d ≡ q *ℤ pos d +ℤ pos d
next_product q d = ap (λ (x : ℤ). x *ℤ pos d) (+ℤ_one q) ∙ suc_ℤ-*ℤ q (pos d)

-- one step on, what is left falls below 0
past : (n q : ℤ) (d r : ℕ) → n -ℤ q *ℤ pos d ≡ pos r → r ≤ d → unsigned_abs (n -ℤ (q +ℤ pos 1) *ℤ pos d) + r ≡ d
past n q d r e h = rw (next_product q d) (omega (arith, ints))

odd_next : (q : ℤ) → ¬ (unsigned_abs q % 2 ≡ 0) → unsigned_abs (q +ℤ pos 1) % 2 ≡ 0
odd_next (pos a) h = omega arith
odd_next (negsuc a) h = omega (arith, ints)

down_is : (n q : ℤ) (d r : ℕ) → n -ℤ q *ℤ pos d ≡ pos r → (2 * r < d) ⊎ ((2 * r ≡ d) × (unsigned_abs q % 2 ≡ 0)) → IsNear n d q
down_is n q d r e (inl h) = record { within = rw e (omega arith); even = rw e (λ k. omega arith) }
down_is n q d r e (inr h) = record { within = rw e (omega arith); even = λ k. h.1 }

up_is : (n q : ℤ) (d r : ℕ) → n -ℤ q *ℤ pos d ≡ pos r → r < d → (2 * r < d → ⊥) → (2 * r ≡ d → unsigned_abs q % 2 ≡ 0 → ⊥) → IsNear n d (q +ℤ pos 1)
up_is n q d r e h a b =
    let p : unsigned_abs (n -ℤ (q +ℤ pos 1) *ℤ pos d) + r ≡ d = past n q d r e (omega arith) in
    record { within = omega arith; even = λ k. odd_next q (b (omega arith)) }

-- by the test
nearest_is : (n q : ℤ) (d r : ℕ) → n -ℤ q *ℤ pos d ≡ pos r → r < d → IsNear n d (nearest d q r)
nearest_is n q d r e h = grind (arith, nat_tests, down_is n q d r e, up_is n q d r e h)

pub near_is : (n : ℤ) (d : ℕ) → 0 < d → IsNear n d (near n d)
unfolding near
near_is n d h = nearest_is n (int_div_euclid n (pos d)) d (unsigned_abs (int_rem_euclid n (pos d))) (euclid n d h) (left_below n d h)

-- what the code tests, joined to `near`
pub near_down : (n d q : ℤ) (r : ℕ) → pos 0 <ℤ d → q ≡ int_div_euclid n d → r ≡ unsigned_abs (int_rem_euclid n d) → rounds_down (unsigned_abs d) q r ≡ true → q ≡ near n (unsigned_abs d)
unfolding near
near_down n (pos d) q r h e f t = rw (← e, ← f, t) refl
near_down n (negsuc d) q r h e f t = absurd (omega (arith, ints))

pub near_up : (n d q : ℤ) (r : ℕ) → pos 0 <ℤ d → q ≡ int_div_euclid n d → r ≡ unsigned_abs (int_rem_euclid n d) → rounds_down (unsigned_abs d) q r ≡ false → q +ℤ pos 1 ≡ near n (unsigned_abs d)
unfolding near
near_up n (pos d) q r h e f t = rw (← e, ← f, t) refl
near_up n (negsuc d) q r h e f t = absurd (omega (arith, ints))

-- k steps on
steps_product : (q : ℤ) (k d : ℕ) → (q +ℤ pos k) *ℤ pos d ≡ q *ℤ pos d +ℤ pos (k * d)
steps_product q zero d =
    let e : q +ℤ pos zero ≡ q = omega (arith, ints) in
    let f : q *ℤ pos d ≡ q *ℤ pos d +ℤ pos (zero * d) = omega (arith, ints) in
    ap (λ (x : ℤ). x *ℤ pos d) e ∙ f
steps_product q (suc k) d =
    let e : q +ℤ pos (suc k) ≡ (q +ℤ pos k) +ℤ pos 1 = omega (arith, ints) in
    let f : q *ℤ pos d +ℤ pos (k * d) +ℤ pos d ≡ q *ℤ pos d +ℤ pos (suc k * d) = omega (arith, ints, suc-mul k d) in
    ap (λ (x : ℤ). x *ℤ pos d) e ∙ next_product (q +ℤ pos k) d ∙ ap (λ (x : ℤ). x +ℤ pos d) (steps_product q k d) ∙ f

not_both_even : (q : ℤ) → unsigned_abs q % 2 ≡ 0 → unsigned_abs (q +ℤ pos 1) % 2 ≡ 0 → ⊥
not_both_even (pos a) h k = omega arith
not_both_even (negsuc a) h k = omega (arith, ints)

-- of two nearest ones the second is not above
not_above : (n q : ℤ) (d k : ℕ) → 0 < d → IsNear n d q → IsNear n d (q +ℤ pos k) → k ≡ 0
not_above n q d zero p h j = refl
not_above n q d (suc zero) p h j =
    let e : (q +ℤ pos 1) *ℤ pos d ≡ q *ℤ pos d +ℤ pos d = next_product q d in
    let w : 2 * unsigned_abs (n -ℤ (q *ℤ pos d +ℤ pos d)) ≤ d = rw e at j.within in
    let one : 2 * unsigned_abs (n -ℤ q *ℤ pos d) ≡ d = omega (arith, ints, h.within) in
    let two : 2 * unsigned_abs (n -ℤ (q +ℤ pos 1) *ℤ pos d) ≡ d = rw e (omega (arith, ints, h.within)) in
    absurd (not_both_even q (h.even one) (j.even two))
not_above n q d (suc (suc k)) p h j =
    let e : (q +ℤ pos (suc (suc k))) *ℤ pos d ≡ q *ℤ pos d +ℤ pos (suc (suc k) * d) = steps_product q (suc (suc k)) d in
    let w : 2 * unsigned_abs (n -ℤ (q *ℤ pos d +ℤ pos (suc (suc k) * d))) ≤ d = rw e at j.within in
    absurd (omega (arith, ints, h.within, suc-mul (suc k) d, suc-mul k d))

-- there is one nearest
pub near_one : (n p q : ℤ) (d : ℕ) → 0 < d → IsNear n d p → IsNear n d q → p ≡ q
near_one n p q d z h j = by_lt_z p q
    (λ l. let e : q ≡ p +ℤ pos (up q + down p - (up p + down q)) = omega (arith, ints) in
    let k : up q + down p - (up p + down q) ≡ 0 = not_above n p d _ z h (subst (λ (x : ℤ). IsNear n d x) e j) in
    omega (arith, ints))
    (λ l. let e : p ≡ q +ℤ pos (up p + down q - (up q + down p)) = omega (arith, ints) in
    let k : up p + down q - (up q + down p) ≡ 0 = not_above n q d _ z j (subst (λ (x : ℤ). IsNear n d x) e h) in
    omega (arith, ints))

-- both parts of a fraction negated
pub near_minus : (n b m e : ℤ) → b <ℤ pos 0 → m ≡ pos 0 -ℤ n → e ≡ pos 0 -ℤ b → near m (unsigned_abs e) ≡ near_signed n b
near_minus n (pos d) m e h f g = absurd (omega (arith, ints))
near_minus n (negsuc d) m e h f g =
    let j : m ≡ neg_ℤ n = omega (arith, ints) in
    let k : e ≡ pos (suc d) = omega (arith, ints) in
    rw (j, k) refl

pub near_plus : (n b : ℤ) → pos 0 <ℤ b → near n (unsigned_abs b) ≡ near_signed n b
near_plus n (pos d) h = refl
near_plus n (negsuc d) h = absurd (omega (arith, ints))

left_whole : (a : ℤ) (d : ℕ) → pos (unsigned_abs (int_rem_euclid a (pos d))) ≡ int_rem_euclid a (pos d)
left_whole (pos a) d = refl
left_whole (negsuc a) d = refl

-- what is left, rounded down, of the sign of the divisor
pub modulo_plus : (a b r : ℤ) → pos 0 <ℤ b → r ≡ int_rem_euclid a b → r ≡ modulo_of a b
modulo_plus a (pos d) r h e =
    let p : 0 < d = omega (arith, ints) in
    e ∙ sym (left_whole a d) ∙ sym (euclid a d p) ∙ ap (λ (x : ℤ). a -ℤ x) (*ℤ_comm (int_div_euclid a (pos d)) (pos d))
modulo_plus a (negsuc d) r h e = absurd (omega (arith, ints))

pub modulo_minus : (a b m e r : ℤ) → b <ℤ pos 0 → m ≡ pos 0 -ℤ a → e ≡ pos 0 -ℤ b → r ≡ int_rem_euclid m e → pos 0 -ℤ r ≡ modulo_of a b
modulo_minus a (pos d) m e r h f g k = absurd (omega (arith, ints))
modulo_minus a (negsuc d) m e r h f g k =
    let j : m ≡ neg_ℤ a = omega (arith, ints) in
    let i : e ≡ pos (suc d) = omega (arith, ints) in
    let q : ℤ = int_div_euclid (neg_ℤ a) (pos (suc d)) in
    let u : r ≡ neg_ℤ a -ℤ q *ℤ pos (suc d) = rw (j, i) at k ∙ sym (left_whole (neg_ℤ a) (suc d)) ∙ sym (euclid (neg_ℤ a) (suc d) (omega arith)) in
    let v : negsuc d *ℤ q ≡ neg_ℤ (q *ℤ pos (suc d)) = *ℤ_comm (negsuc d) q ∙ *ℤ-negsuc q d in
    rw (v, u) (omega (arith, ints))

-- the nearest to a fraction of magnitude at most m
by_bound : (n q : ℤ) (d m : ℕ) → 0 < d → unsigned_abs n ≤ m * d → IsNear n d q → (m < unsigned_abs q) ⊎ (unsigned_abs q ≤ m) → unsigned_abs q ≤ m
by_bound n q d m h s i (inl l) =
    let p : unsigned_abs (q *ℤ pos d) ≡ unsigned_abs q * d = unsigned_abs-mul q (pos d) in
    let r : suc m * d ≤ unsigned_abs q * d = mul-le-mul_right d l in
    absurd (omega (arith, ints, i.within, suc-mul m d))
by_bound n q d m h s i (inr l) = l

pub near_small : (n : ℤ) (d m : ℕ) → 0 < d → unsigned_abs n ≤ m * d → unsigned_abs (near n d) ≤ m
near_small n d m h s = by_bound n (near n d) d m h s (near_is n d h) (cases_lt m (unsigned_abs (near n d)))

-- so a mean is in range
pub mean_in_range : (n : ℤ) (d : ℕ) → 0 < d → unsigned_abs n ≤ 10000000000000000 * d → in_range (near n d) ≡ Some (near n d)
mean_in_range n d h s = let t : nat_le (unsigned_abs (near n d)) 10000000000000000 ≡ true = le-leb _ _ (near_small n d 10000000000000000 h s) in rw t refl

pub mean_found : (n : ℤ) (d : ℕ) (m e : ℤ) (answer : Option ℤ) → answer ≡ in_range (near m (unsigned_abs e)) → m ≡ n → e ≡ pos d → 0 < d → unsigned_abs n ≤ 10000000000000000 * d → answer ≡ Some (near n d)
mean_found n d m e answer a f g h s = rw (f, g) at a ∙ mean_in_range n d h s

-- What the rounding of one fraction is, from the count that the code computes.
pub rounds_to : (n : ℤ) (d : ℕ) (answer : Option ℤ) → 0 < d → answer ≡ in_range (near n d) → RoundsTo n d answer
rounds_to n d answer h e = record {
  some = (near n d, near_is n d h, e);
  only = λ q j. e ∙ ap in_range (near_one _ _ _ d h (near_is n d h) j);
}

-- the same of a quotient, whose divisor has either sign
pub rounds_above : (n b : ℤ) (answer : Option ℤ) → answer ≡ in_range (near_signed n b) → pos 0 <ℤ b → RoundsTo n (unsigned_abs b) answer
rounds_above n (pos d) answer e h = let p : 0 < d = omega (arith, ints) in rounds_to n d answer p e
rounds_above n (negsuc d) answer e h = absurd (omega (arith, ints))

pub rounds_below : (n b : ℤ) (answer : Option ℤ) → answer ≡ in_range (near_signed n b) → b <ℤ pos 0 → RoundsTo (neg_ℤ n) (unsigned_abs b) answer
rounds_below n (pos d) answer e h = absurd (omega (arith, ints))
rounds_below n (negsuc d) answer e h = let p : 0 < suc d = omega arith in rounds_to (neg_ℤ n) (suc d) answer p e

-- what is left lies from 0 to the divisor
pub modulo_is : (a b : ℤ) → ¬ (b ≡ pos 0) → IsModulo a b (modulo_of a b)
modulo_is a (pos d) h =
    let p : 0 < d = omega (arith, ints) in
    let q : ℤ = int_div_euclid a (pos d) in
    let e : pos d *ℤ q ≡ q *ℤ pos d = *ℤ_comm (pos d) q in
    let l : a -ℤ q *ℤ pos d ≡ pos (unsigned_abs (int_rem_euclid a (pos d))) = euclid a d p in
    let s : unsigned_abs (int_rem_euclid a (pos d)) < d = left_below a d p in
    rw e (record {
      steps = (q, rw e (omega (arith, ints)));
      above = λ _. (omega (arith, ints), omega (arith, ints));
      below = λ g. absurd (omega (arith, ints));
    })
modulo_is a (negsuc d) h =
    let p : 0 < suc d = omega arith in
    let q : ℤ = int_div_euclid (neg_ℤ a) (pos (suc d)) in
    let e : negsuc d *ℤ q ≡ neg_ℤ (q *ℤ pos (suc d)) = *ℤ_comm (negsuc d) q ∙ *ℤ-negsuc q d in
    let l : neg_ℤ a -ℤ q *ℤ pos (suc d) ≡ pos (unsigned_abs (int_rem_euclid (neg_ℤ a) (pos (suc d)))) = euclid (neg_ℤ a) (suc d) p in
    let s : unsigned_abs (int_rem_euclid (neg_ℤ a) (pos (suc d))) < suc d = left_below (neg_ℤ a) (suc d) p in
    rw e (record {
      steps = (q, rw e (omega (arith, ints)));
      above = λ g. absurd (omega (arith, ints));
      below = λ _. (omega (arith, ints), omega (arith, ints));
    })

-- what lies from 0 to a count is in range
modulo_small : (a b r : ℤ) → ¬ (b ≡ pos 0) → InRange b → IsModulo a b r → InRange r
modulo_small a (pos zero) r h i m = absurd (h refl)
modulo_small a (pos (suc d)) r h i m = let k : (pos 0 ≤ℤ r) × (r <ℤ pos (suc d)) = m.above (omega (arith, ints)) in omega (arith, ints, k.0, k.1)
modulo_small a (negsuc d) r h i m = let k : (negsuc d <ℤ r) × (r ≤ℤ pos 0) = m.below (omega (arith, ints)) in omega (arith, ints, k.0, k.1)

pub some_in_range : (z : ℤ) (answer : Option ℤ) (P : ℤ → Type 0) → answer ≡ in_range z → InRange z → P z → IsSomeAnd answer P
some_in_range z answer P e h p =
    let t : nat_le (unsigned_abs z) 10000000000000000 ≡ true = le-leb _ _ h in
    let f : answer ≡ Some z = e ∙ (rw t refl) in
    rw f p

pub modulo_left : (a b : ℤ) (answer : Option ℤ) → InRange b → answer ≡ in_range (modulo_of a b) → ¬ (b ≡ pos 0) → IsSomeAnd answer (λ r. IsModulo a b r)
modulo_left a b answer i e h =
    let m : IsModulo a b (modulo_of a b) = modulo_is a b h in
    some_in_range (modulo_of a b) answer (λ r. IsModulo a b r) e (modulo_small a b (modulo_of a b) h i m) m

-- the whole numbers of a count
left : (a : ℕ) → a % 1000000 < 1000000
left a = mod-lt a (lit< tt)

pub floor_is : (c : ℤ) → IsFloor c 1000000 (floor_whole c)
floor_is (pos a) = record { low = omega (arith, ints, div-add-mod' a 1000000, left a); high = omega (arith, ints, div-add-mod' a 1000000, left a) }
floor_is (negsuc a) = record { low = omega (arith, ints, div-add-mod' a 1000000, left a); high = omega (arith, ints, div-add-mod' a 1000000, left a) }

pub nearest_whole_is : (c : ℤ) → IsNearestWhole c (nearest_whole c)
nearest_whole_is (pos a) = record { within = omega (arith, ints); away = λ h. omega (arith, ints) }
nearest_whole_is (negsuc a) = record { within = omega (arith, ints); away = λ h. omega (arith, ints) }
