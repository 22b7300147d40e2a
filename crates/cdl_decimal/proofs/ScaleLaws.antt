-- A fraction of powers of ten is rounded after its powers are taken together.
use Rattle.std.proofs.Common.{ℕ, zero, suc, ◌+◌, ◌*◌, ◌-◌, ◌^◌, ◌<◌, ◌≤◌, ◌≡◌, ◌≢◌, refl, sym, ap, subst, ◌∙◌, Bool, true, false, cond, Some, arith, lit<}
use Rattle.std.specs.Prelude.{ℤ, pos, negsuc, neg_ℤ, ◌+ℤ◌, ◌-ℤ◌, ◌*ℤ◌, unsigned_abs, None, nat_le}
use Rattle.std.proofs.lemmas.Int.{ints, unsigned_abs-mul}
use Rattle.std.proofs.lemmas.Nat.{pow-add}
use Rattle.std.proofs.lemmas.Bool.Decides.{nat_tests}
use Rattle.std.proofs.Math.IntN.{suc_ℤ-*ℤ, *ℤ_comm, *ℤ-zero}
use Rattle.std.proofs.Math.Nat.{mul_assoc, one-le-pow, pow-le-pow_right, mul-le-mul, mul-le-mul_left, mul-le-mul_right, le_of_mul-le-mul_right}
use Rattle.cdl_source.specs.declared.limits.TheConstants.{LARGEST_REAL}
use Rattle.cdl_decimal.specs.Near.{InRange, IsNear, near, in_range}
use Rattle.cdl_decimal.specs.Spells.{with_sign}
use Rattle.cdl_decimal.proofs.NearLaws.{near_is, near_one}

pub power_positive : (k : ℕ) → 0 < 10 ^ k
power_positive k = one-le-pow k 10 (lit< tt)

-- products of a signed number
pub sign_times : (m : Bool) (a b : ℕ) → with_sign m a *ℤ pos b ≡ with_sign m (a * b)
sign_times false a b = refl
sign_times true zero b = omega (arith, ints)
sign_times true (suc a) b = refl

pub times_times : (q : ℤ) (d m : ℕ) → (q *ℤ pos d) *ℤ pos m ≡ q *ℤ pos (d * m)
times_times (pos b) d m = ap pos (mul_assoc b d m)
times_times (negsuc b) d m = sign_times true (suc b * d) m ∙ ap (λ (n : ℕ). neg_ℤ (pos n)) (mul_assoc (suc b) d m)

times_suc : (x : ℤ) (m : ℕ) → x *ℤ pos (suc m) ≡ x *ℤ pos m +ℤ x
times_suc x m = *ℤ_comm x (pos (suc m)) ∙ suc_ℤ-*ℤ (pos m) x ∙ ap (λ (y : ℤ). y +ℤ x) (*ℤ_comm (pos m) x)

difference_times : (x y : ℤ) (m : ℕ) → (x -ℤ y) *ℤ pos m ≡ x *ℤ pos m -ℤ y *ℤ pos m
difference_times x y zero = rw (*ℤ-zero (x -ℤ y), *ℤ-zero x, *ℤ-zero y) refl
difference_times x y (suc m) =
    let i : (x -ℤ y) *ℤ pos m ≡ x *ℤ pos m -ℤ y *ℤ pos m = difference_times x y m in
    let a : (x -ℤ y) *ℤ pos (suc m) ≡ (x -ℤ y) *ℤ pos m +ℤ (x -ℤ y) = times_suc (x -ℤ y) m in
    let b : x *ℤ pos (suc m) ≡ x *ℤ pos m +ℤ x = times_suc x m in
    let c : y *ℤ pos (suc m) ≡ y *ℤ pos m +ℤ y = times_suc y m in
    omega (arith, ints)

off_times : (n : ℤ) (d m : ℕ) (q : ℤ) → unsigned_abs (n *ℤ pos m -ℤ q *ℤ pos (d * m)) ≡ unsigned_abs (n -ℤ q *ℤ pos d) * m
off_times n d m q =
    let e : n *ℤ pos m -ℤ q *ℤ pos (d * m) ≡ (n -ℤ q *ℤ pos d) *ℤ pos m = ap (λ (y : ℤ). n *ℤ pos m -ℤ y) (sym (times_times q d m)) ∙ sym (difference_times n (q *ℤ pos d) m) in
    ap unsigned_abs e ∙ unsigned_abs-mul (n -ℤ q *ℤ pos d) (pos m)

twice_times : (r m : ℕ) → 2 * (r * m) ≡ (2 * r) * m
twice_times r m = sym (mul_assoc 2 r m)

same_from_times : (a b m : ℕ) → 0 < m → a * m ≡ b * m → a ≡ b
same_from_times a b m h e =
    let p : a * m ≤ b * m = omega arith in
    let q : b * m ≤ a * m = omega arith in
    let u : a ≤ b = le_of_mul-le-mul_right p h in
    let v : b ≤ a = le_of_mul-le-mul_right q h in
    omega arith

-- the nearest of a fraction is that of the fraction with both its parts multiplied
near_times : (n : ℤ) (d m : ℕ) (q : ℤ) → 0 < m → IsNear n d q → IsNear (n *ℤ pos m) (d * m) q
near_times n d m q h near =
    let r : ℕ = unsigned_abs (n -ℤ q *ℤ pos d) in
    let e : unsigned_abs (n *ℤ pos m -ℤ q *ℤ pos (d * m)) ≡ r * m = off_times n d m q in
    let w : (2 * r) * m ≤ d * m = mul-le-mul_right m near.within in
    let t : 2 * (r * m) ≡ (2 * r) * m = twice_times r m in
    record {
      within = rw e (omega arith);
      even = λ k. let f : (2 * r) * m ≡ d * m = sym t ∙ ap (λ (x : ℕ). 2 * x) (sym e) ∙ k in near.even (same_from_times (2 * r) d m h f);
    }

pub near_whole : (q : ℤ) (d : ℕ) → 0 < d → IsNear (q *ℤ pos d) d q
near_whole q d h =
    let e : unsigned_abs (q *ℤ pos d -ℤ q *ℤ pos d) ≡ 0 = omega (arith, ints) in
    record { within = rw e (omega arith); even = rw e (λ k. absurd (omega arith)) }

pub near_exact : (n : ℤ) (up down : ℕ) → down ≤ up → near (n *ℤ pos (10 ^ up)) (10 ^ down) ≡ n *ℤ pos (10 ^ (up - down))
near_exact n up down h =
    let k : ℕ = up - down in
    let s : up ≡ k + down = omega arith in
    let p : 10 ^ up ≡ 10 ^ k * 10 ^ down = ap (λ (x : ℕ). 10 ^ x) s ∙ pow-add 10 k down in
    let e : n *ℤ pos (10 ^ up) ≡ (n *ℤ pos (10 ^ k)) *ℤ pos (10 ^ down) = ap (λ (x : ℕ). n *ℤ pos x) p ∙ sym (times_times n (10 ^ k) (10 ^ down)) in
    let d : 0 < 10 ^ down = power_positive down in
    ap (λ (x : ℤ). near x (10 ^ down)) e ∙ near_one ((n *ℤ pos (10 ^ k)) *ℤ pos (10 ^ down)) _ _ (10 ^ down) d (near_is ((n *ℤ pos (10 ^ k)) *ℤ pos (10 ^ down)) (10 ^ down) d) (near_whole (n *ℤ pos (10 ^ k)) (10 ^ down) d)

pub near_shifted : (n : ℤ) (up down : ℕ) → up ≤ down → near (n *ℤ pos (10 ^ up)) (10 ^ down) ≡ near n (10 ^ (down - up))
near_shifted n up down h =
    let k : ℕ = down - up in
    let s : down ≡ k + up = omega arith in
    let p : 10 ^ down ≡ 10 ^ k * 10 ^ up = ap (λ (x : ℕ). 10 ^ x) s ∙ pow-add 10 k up in
    let d : 0 < 10 ^ k = power_positive k in
    let m : 0 < 10 ^ up = power_positive up in
    let b : 0 < 10 ^ k * 10 ^ up = rw (← p) (power_positive down) in
    ap (λ (x : ℕ). near (n *ℤ pos (10 ^ up)) x) p ∙ near_one (n *ℤ pos (10 ^ up)) _ _ (10 ^ k * 10 ^ up) b (near_is (n *ℤ pos (10 ^ up)) (10 ^ k * 10 ^ up) b) (near_times n (10 ^ k) (10 ^ up) (near n (10 ^ k)) m (near_is n (10 ^ k) d))

-- a fraction far below a half
pub near_nothing : (n : ℤ) (k : ℕ) → unsigned_abs n < 1000000000000000000000000000000 → 30 < k → near n (10 ^ k) ≡ pos 0
near_nothing n k small far =
    let d : 0 < 10 ^ k = power_positive k in
    let p : 10 ^ 31 ≤ 10 ^ k = pow-le-pow_right {n = 10} (lit< tt) {i = 31} {j = k} far in
    let e : unsigned_abs (n -ℤ pos 0 *ℤ pos (10 ^ k)) ≡ unsigned_abs n = omega (arith, ints) in
    let z : IsNear n (10 ^ k) (pos 0) = record { within = rw e (omega arith); even = λ h. refl } in
    near_one n (near n (10 ^ k)) (pos 0) (10 ^ k) d (near_is n (10 ^ k) d) z

when_in_range : (b : Bool) (z w : ℤ) → (b ≡ true → InRange z) → cond b (Some z) None ≡ Some w → InRange w
when_in_range true z w h e = let same : z ≡ w = cc in subst InRange same (h refl)
when_in_range false z w h e = cc

pub in_range-some : (z w : ℤ) → in_range z ≡ Some w → InRange w
in_range-some z w e = when_in_range (nat_le (unsigned_abs z) LARGEST_REAL) z w (λ t. grind (arith, nat_tests)) e

pub out_of_range : (z : ℤ) → 10000000000000000 < unsigned_abs z → in_range z ≡ None
out_of_range z h = let t : nat_le (unsigned_abs z) 10000000000000000 ≡ false = grind (arith, nat_tests) in rw t refl

-- a whole number past the range
pub far_power : (n : ℤ) (k : ℕ) → n ≢ pos 0 → 16 < k → in_range (n *ℤ pos (10 ^ k)) ≡ None
far_power n k some far =
    let p : 10 ^ 17 ≤ 10 ^ k = pow-le-pow_right {n = 10} (lit< tt) {i = 17} {j = k} far in
    let one : 1 ≤ unsigned_abs n = omega (arith, ints) in
    let g : 1 * 10 ^ k ≤ unsigned_abs n * 10 ^ k = mul-le-mul_right (10 ^ k) one in
    let e : unsigned_abs (n *ℤ pos (10 ^ k)) ≡ unsigned_abs n * 10 ^ k = unsigned_abs-mul n (pos (10 ^ k)) in
    out_of_range (n *ℤ pos (10 ^ k)) (rw e (omega arith))

pub far_number : (n : ℤ) (k : ℕ) → 10000000000000000 < unsigned_abs n → in_range (n *ℤ pos (10 ^ k)) ≡ None
far_number n k far =
    let p : 1 ≤ 10 ^ k = power_positive k in
    let g : unsigned_abs n * 1 ≤ unsigned_abs n * 10 ^ k = mul-le-mul_left (unsigned_abs n) p in
    let e : unsigned_abs (n *ℤ pos (10 ^ k)) ≡ unsigned_abs n * 10 ^ k = unsigned_abs-mul n (pos (10 ^ k)) in
    out_of_range (n *ℤ pos (10 ^ k)) (rw e (omega arith))

-- a product that fits 128 bits
pub small_product : (n : ℤ) (k : ℕ) → unsigned_abs n ≤ 10000000000000000 → k ≤ 16 → unsigned_abs (n *ℤ pos (10 ^ k)) ≤ 100000000000000000000000000000000
small_product n k a b =
    let p : 10 ^ k ≤ 10 ^ 16 = pow-le-pow_right {n = 10} (lit< tt) {i = k} {j = 16} b in
    let g : unsigned_abs n * 10 ^ k ≤ 10000000000000000 * 10 ^ 16 = mul-le-mul a p in
    let e : unsigned_abs (n *ℤ pos (10 ^ k)) ≡ unsigned_abs n * 10 ^ k = unsigned_abs-mul n (pos (10 ^ k)) in
    rw e (omega arith)

pub power_small : (k : ℕ) → k ≤ 30 → 10 ^ k ≤ 1000000000000000000000000000000
power_small k h = let p : 10 ^ k ≤ 10 ^ 30 = pow-le-pow_right {n = 10} (lit< tt) {i = k} {j = 30} h in p
