-- Numbers that digits write.
use Rattle.std.proofs.Common.{ℕ, zero, suc, ◌+◌, ◌-◌, ◌*◌, ◌^◌, ◌<◌, ◌≤◌, ◌≡◌, refl, sym, ap, ◌∙◌, List, [], ◌∷◌, ◌++◌, length, drop, get_or, arith, lit<}
use Rattle.std.proofs.Math.Nat.{pow-suc, mul-le-mul_right, pow-le-pow_right}
use Rattle.cdl_decimal.specs.Spells.{IsDigit, AllDigits, number_after, number, Parts, with_sign}
use Rattle.std.specs.Prelude.{ℤ, pos, ◌*ℤ◌, false, cond}
use Rattle.std.proofs.lemmas.Nat.{pow-add}
use Rattle.std.proofs.lemmas.Bool.Decides.{nat_tests}
use Rattle.cdl_decimal.specs.Near.{near, in_range}
use Rattle.cdl_decimal.specs.Split.{is_long, significand, count_of}
use Rattle.cdl_decimal.proofs.ScaleLaws.{power_positive, power_small, sign_times}

pub number_after-append : (n : ℕ) (xs ys : List ℕ) → number_after n (xs ++ ys) ≡ number_after (number_after n xs) ys
number_after-append n [] ys = refl
number_after-append n (x ∷ xs) ys = number_after-append (n * 10 + (x - 48)) xs ys

pub number_after-grows : (ds : List ℕ) (n : ℕ) → n ≤ number_after n ds
number_after-grows [] n = omega arith
number_after-grows (d ∷ ds) n = let h : n * 10 + (d - 48) ≤ number_after (n * 10 + (d - 48)) ds = number_after-grows ds (n * 10 + (d - 48)) in omega arith

-- the digits that are left, from the next one on
pub digit_left : (ds : List ℕ) (i : ℕ) → i < length ds → AllDigits (drop i ds) → IsDigit (get_or ds i 0) × AllDigits (drop (suc i) ds)
digit_left [] i h a = absurd (omega arith)
digit_left (d ∷ ds) zero h a = a
digit_left (d ∷ ds) (suc i) h a = digit_left ds i (omega arith) a

pub number_left : (n : ℕ) (ds : List ℕ) (i : ℕ) → i < length ds → number_after n (drop i ds) ≡ number_after (n * 10 + (get_or ds i 0 - 48)) (drop (suc i) ds)
number_left n [] i h = absurd (omega arith)
number_left n (d ∷ ds) zero h = refl
number_left n (d ∷ ds) (suc i) h = number_left n ds i (omega arith)

-- one digit more
pub one_more : (sum d k bound : ℕ) → d ≤ 9 → (sum + 1) * 10 ^ (suc k) ≤ bound → (sum * 10 + d + 1) * 10 ^ k ≤ bound
one_more sum d k bound small h =
    let p : 10 ^ (suc k) ≡ 10 ^ k * 10 = pow-suc 10 k in
    let a : (sum * 10 + d + 1) * 10 ^ k ≤ (sum * 10 + 10) * 10 ^ k = mul-le-mul_right (10 ^ k) (omega arith) in
    let b : (sum + 1) * (10 ^ k * 10) ≤ bound = rw p at h in
    omega arith

pub room_left : (sum k bound : ℕ) → (sum + 1) * 10 ^ (suc k) ≤ bound → (sum + 1) * 10 ≤ bound
room_left sum k bound h =
    let p : 10 ^ (suc k) ≡ 10 ^ k * 10 = pow-suc 10 k in
    let b : (sum + 1) * (10 ^ k * 10) ≤ bound = rw p at h in
    let o : 1 * ((sum + 1) * 10) ≤ 10 ^ k * ((sum + 1) * 10) = mul-le-mul_right ((sum + 1) * 10) (power_positive k) in
    omega arith

pub digits_below : (n len : ℕ) → n < 1 * 10 ^ len → len ≤ 30 → n < 1000000000000000000000000000000
digits_below n len h k = let p : 10 ^ len ≤ 1000000000000000000000000000000 = power_small len k in omega arith

pub first_room : (len : ℕ) → len ≤ 30 → 1 * 10 ^ len ≤ 1000000000000000000000000000000
first_room len k = let p : 10 ^ len ≤ 1000000000000000000000000000000 = power_small len k in omega arith

-- room for the digits behind the first ones
pub next_room : (n a b : ℕ) → n < 1 * 10 ^ a → a + b ≤ 30 → (n + 1) * 10 ^ b ≤ 1000000000000000000000000000000
next_room n a b h k =
    let p : 10 ^ (a + b) ≤ 1000000000000000000000000000000 = power_small (a + b) k in
    let e : 10 ^ (a + b) ≡ 10 ^ a * 10 ^ b = pow-add 10 a b in
    let g : (n + 1) * 10 ^ b ≤ 10 ^ a * 10 ^ b = mul-le-mul_right (10 ^ b) (omega arith) in
    omega arith

pub short_exponent : (n len : ℕ) → n < 1 * 10 ^ len → len ≤ 3 → n < 1000
short_exponent n len h k = let p : 10 ^ len ≤ 10 ^ 3 = pow-le-pow_right {n = 10} (lit< tt) {i = len} {j = 3} k in omega arith

pub short_parts : (p : Parts) → is_long p ≡ false → (length p.whole + length p.fraction ≤ 30) × (length p.exponent ≤ 3)
short_parts p h = (grind (arith, nat_tests), grind (arith, nat_tests))

-- the millionths of the fraction, with its powers taken together
pub count_is : (p : Parts) → in_range (near (with_sign p.negative (significand p) *ℤ pos (10 ^ (6 + cond p.exponent_negative 0 (number p.exponent)))) (10 ^ (length p.fraction + cond p.exponent_negative (number p.exponent) 0))) ≡ count_of p
unfolding count_of
count_is p =
    let a : ℕ = cond p.exponent_negative 0 (number p.exponent) in
    let n : ℕ = significand p in
    let e : 10 ^ (6 + a) ≡ 1000000 * 10 ^ a = pow-add 10 6 a in
    let f1 : n * (1000000 * 10 ^ a) ≡ n * 10 ^ a * 1000000 = omega arith in
    let f : n * 10 ^ (6 + a) ≡ n * 10 ^ a * 1000000 = ap (λ (x : ℕ). n * x) e ∙ f1 in
    let g : with_sign p.negative n *ℤ pos (10 ^ (6 + a)) ≡ with_sign p.negative (n * 10 ^ a) *ℤ pos 1000000 = sign_times p.negative n (10 ^ (6 + a)) ∙ ap (λ (x : ℕ). with_sign p.negative x) f ∙ sym (sign_times p.negative (n * 10 ^ a) 1000000) in
    ap (λ (x : ℤ). in_range (near x (10 ^ (length p.fraction + cond p.exponent_negative (number p.exponent) 0)))) g

-- the room of a number whose digits are left from the one at i
pub room_at : (sum i len bound : ℕ) → i < len → (sum + 1) * 10 ^ (len - i) ≤ bound → (sum + 1) * 10 ≤ bound
room_at sum i len bound h g =
    let e : len - i ≡ suc (len - (i + 1)) = omega arith in
    room_left sum (len - (i + 1)) bound (rw e at g)

pub more_at : (sum d i len bound : ℕ) → i < len → d ≤ 9 → (sum + 1) * 10 ^ (len - i) ≤ bound → (sum * 10 + d + 1) * 10 ^ (len - (i + 1)) ≤ bound
more_at sum d i len bound h s g =
    let e : len - i ≡ suc (len - (i + 1)) = omega arith in
    one_more sum d (len - (i + 1)) bound s (rw e at g)
