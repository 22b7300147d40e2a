-- Rounding to the nearest whole number, rounding down, and the range of a Real.
use Rattle.std.specs.Prelude.{ℕ, suc, ◌*◌, ◌%◌, ◌≤◌, ◌≡◌, ℤ, pos, negsuc, ◌+ℤ◌, ◌-ℤ◌, ◌*ℤ◌, ◌≤ℤ◌, ◌<ℤ◌, neg_ℤ, unsigned_abs, Bool, cond, ◌||◌, ◌&&◌, nat_lt, nat_le, ◌==◌, Option, Some, None}
use Rattle.cdl_source.specs.declared.limits.TheConstants.{LARGEST_INTEGER, LARGEST_REAL}
use Rattle.std.specs.Int.{int_div_euclid, int_rem_euclid}

-- q is the whole number nearest to the fraction n / d, and even where two are nearest
pub record IsNear (n : ℤ) (d : ℕ) (q : ℤ) : Type 0 where
  pub within : 2 * unsigned_abs (n -ℤ q *ℤ pos d) ≤ d
  pub even : 2 * unsigned_abs (n -ℤ q *ℤ pos d) ≡ d → unsigned_abs q % 2 ≡ 0

-- q is the greatest whole number not above n / d
pub record IsFloor (n : ℤ) (d : ℕ) (q : ℤ) : Type 0 where
  pub low : (q *ℤ pos d) ≤ℤ n
  pub high : n <ℤ (q *ℤ pos d +ℤ pos d)

-- r is what is left of a after whole steps of b: it lies from 0 to b, b not included
pub record IsModulo (a b r : ℤ) : Type 0 where
  pub steps : (k : ℤ) × (a ≡ b *ℤ k +ℤ r)
  pub above : pos 0 <ℤ b → (pos 0 ≤ℤ r) × (r <ℤ b)
  pub below : b <ℤ pos 0 → (b <ℤ r) × (r ≤ℤ pos 0)

-- from the quotient rounded down and what is left: down, or up
abbrev pub rounds_down : ℕ → ℤ → ℕ → Bool
rounds_down d q r = nat_lt (2 * r) d || ((2 * r == d) && (unsigned_abs q % 2 == 0))

abbrev pub nearest : ℕ → ℤ → ℕ → ℤ
nearest d q r = cond (rounds_down d q r) q (q +ℤ pos 1)

-- the whole number nearest to n / d
unfoldable pub near : ℤ → ℕ → ℤ
near n d = nearest d (int_div_euclid n (pos d)) (unsigned_abs (int_rem_euclid n (pos d)))

-- the whole number nearest to n / d, both negated where d is negative
abbrev pub near_signed : ℤ → ℤ → ℤ
near_signed n (pos d) = near n d
near_signed n (negsuc d) = near (neg_ℤ n) (suc d)

-- the whole part of a / b, rounded down
abbrev pub floor_div : ℤ → ℤ → ℤ
floor_div a (pos b) = int_div_euclid a (pos b)
floor_div a (negsuc b) = int_div_euclid (neg_ℤ a) (pos (suc b))

-- what is left of a, of the sign of b
abbrev pub modulo_of : ℤ → ℤ → ℤ
modulo_of a b = a -ℤ b *ℤ floor_div a b

-- a count of magnitude at most 10^16
abbrev pub InRange : ℤ → Type 0
InRange z = unsigned_abs z ≤ LARGEST_REAL

abbrev pub in_range : ℤ → Option ℤ
in_range z = cond (nat_le (unsigned_abs z) LARGEST_REAL) (Some z) None

-- a whole number of magnitude at most 2,147,483,647
abbrev pub in_integer_range : ℤ → Option ℤ
in_integer_range z = cond (nat_le (unsigned_abs z) LARGEST_INTEGER) (Some z) None

-- none where the divisor is 0
abbrev pub unless_zero : ℤ → Option ℤ → Option ℤ
unless_zero b r = cond (unsigned_abs b == 0) None r

-- the answer is the count nearest to n / d, of which there is one; none where it is out of range
pub record RoundsTo (n : ℤ) (d : ℕ) (answer : Option ℤ) : Type 0 where
  pub some : (q : ℤ) × IsNear n d q × (answer ≡ in_range q)
  pub only : (q : ℤ) → IsNear n d q → answer ≡ in_range q
