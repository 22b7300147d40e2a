-- The canonical text of a count is read as that count.
use Rattle.std.proofs.Common.{ℕ, zero, suc, ◌+◌, ◌-◌, ◌*◌, ◌/◌, ◌%◌, ◌^◌, ◌<◌, ◌≤◌, ◌≡◌, refl, sym, ap, subst, ◌∙◌, Bool, true, false, cond, ◌==◌, List, [], ◌∷◌, ◌++◌, length, map, arith, lit<, lit≤, inl, inr, Ok, append_assoc}
use Rattle.cdl_source.proofs.Options.{not_zero}
use Rattle.std.specs.Prelude.{ℤ, pos, negsuc, ◌*ℤ◌, unsigned_abs}
use Rattle.std.specs.Int.RustNames.{int_lt}
use Rattle.std.specs.Int.Digits.{digits_of, number_from_digits_after, AllBelowBase}
use Rattle.std.proofs.lemmas.Int.Digits.{digits_of_step, number_digits_of, all_below_base_digits_of, length-digits_of-le}
use Rattle.std.proofs.lemmas.Nat.{div_below, div-add-mod', mod_below}
use Rattle.std.proofs.lemmas.Bool.Decides.{nat_tests}
use Rattle.std.proofs.lemmas.List.{append-nil, map-append, length-map}
use Rattle.std.proofs.Math.Nat.{pow-suc}
use Rattle.cdl_decimal.specs.Near.{InRange, IsNear}
use Rattle.cdl_decimal.specs.Spells.{AllDigits, number, number_after, IsSign, none, minus, IsFraction, no_point, point, no_exponent, Parts, Spells, with_sign, IsLong, CountIs}
use Rattle.cdl_decimal.specs.Split.{parse_of}
use Rattle.cdl_decimal.specs.Canon.{digit, decimal, places_of, point_of, sign_of, canon}
use Rattle.cdl_decimal.proofs.ScaleLaws.{power_positive, sign_times, near_whole}
use Rattle.cdl_decimal.proofs.DigitLaws.{number_after-append}
use Rattle.cdl_decimal.proofs.ParseLaws.{parses_one}

decimal_positive : (n : ℕ) → 0 < n → decimal n ≡ map digit (digits_of 10 (n / 10)) ++ (48 + n % 10) ∷ []
decimal_positive n h =
    let e : digits_of 10 n ≡ digits_of 10 (n / 10) ++ (n % 10 ∷ []) = digits_of_step 10 n (lit≤ tt) h in
    rw (not_zero n h, e) (map-append digit (digits_of 10 (n / 10)) (n % 10 ∷ []))

pub decimal_small : (n : ℕ) → n < 10 → decimal n ≡ (48 + n) ∷ []
decimal_small zero h = refl
decimal_small (suc m) h =
    let n : ℕ = suc m in
    let q : suc m / 10 ≡ 0 = omega arith in
    let r : suc m % 10 ≡ suc m = omega arith in
    decimal_positive (suc m) (omega arith) ∙ (rw (q, r) refl)

pub decimal_step : (n : ℕ) → 10 ≤ n → decimal n ≡ decimal (n / 10) ++ (48 + n % 10) ∷ []
decimal_step n h =
    let q : 0 < n / 10 = omega arith in
    decimal_positive n (omega arith) ∙ (rw (not_zero (n / 10) q) refl)

number_map : (k : ℕ) (ds : List ℕ) → number_after k (map digit ds) ≡ number_from_digits_after 10 k ds
number_map k [] = refl
number_map k (d ∷ ds) =
    let e : k * 10 + (48 + d - 48) ≡ k * 10 + d = omega arith in
    ap (λ (n : ℕ). number_after n (map digit ds)) e ∙ number_map (k * 10 + d) ds

digits_map : (ds : List ℕ) → AllBelowBase 10 ds → AllDigits (map digit ds)
digits_map [] h = tt
digits_map (d ∷ ds) h = ((omega arith, omega (arith, h.0)), digits_map ds h.1)

decimal_is : (n : ℕ) → 0 < n → decimal n ≡ map digit (digits_of 10 n)
decimal_is n h = rw (not_zero n h) refl

positive_number : (n : ℕ) → 0 < n → number (decimal n) ≡ n
positive_number n h = ap (λ (ds : List ℕ). number ds) (decimal_is n h) ∙ number_map 0 (digits_of 10 n) ∙ number_digits_of 10 n (lit≤ tt)

positive_digits : (n : ℕ) → 0 < n → AllDigits (decimal n)
positive_digits n h = subst (λ (ds : List ℕ). AllDigits ds) (sym (decimal_is n h)) (digits_map (digits_of 10 n) (all_below_base_digits_of 10 n (lit≤ tt)))

positive_length : (n : ℕ) → 0 < n → n < 10 ^ 20 → length (decimal n) ≤ 20
positive_length n h small =
    let g : length (digits_of 10 n) ≤ 20 = length-digits_of-le 10 20 n (lit≤ tt) small in
    let e : length (decimal n) ≡ length (digits_of 10 n) = ap (λ (ds : List ℕ). length ds) (decimal_is n h) ∙ length-map (digits_of 10 n) digit in
    omega arith

decimal_number : (n : ℕ) → number (decimal n) ≡ n
decimal_number zero = refl
decimal_number (suc m) = positive_number (suc m) (omega arith)

decimal_digits : (n : ℕ) → AllDigits (decimal n)
decimal_digits zero = ((lit≤ tt, lit≤ tt), tt)
decimal_digits (suc m) = positive_digits (suc m) (omega arith)

decimal_length : (n : ℕ) → n < 10 ^ 20 → length (decimal n) ≤ 20
decimal_length zero h = lit≤ tt
decimal_length (suc m) h = positive_length (suc m) (omega arith) h

decimal_some : (n : ℕ) → 0 < length (decimal n)
decimal_some zero = lit< tt
decimal_some (suc m) =
    let e : decimal (suc m) ≡ map digit (digits_of 10 (suc m / 10)) ++ (48 + suc m % 10) ∷ [] = decimal_positive (suc m) (omega arith) in
    rw e (length_last (map digit (digits_of 10 (suc m / 10))) (48 + suc m % 10))
  where
    length_last : (xs : List ℕ) (x : ℕ) → 0 < length (xs ++ x ∷ [])
    length_last [] x = lit< tt
    length_last (y ∷ ys) x = omega arith

-- the digits behind the point
number_after_is : (k : ℕ) (ds : List ℕ) → number_after k ds ≡ k * 10 ^ length ds + number ds
number_after_is k [] = omega arith
number_after_is k (d ∷ ds) =
    let a : number_after (k * 10 + (d - 48)) ds ≡ (k * 10 + (d - 48)) * 10 ^ length ds + number ds = number_after_is (k * 10 + (d - 48)) ds in
    let b : number_after (0 * 10 + (d - 48)) ds ≡ (0 * 10 + (d - 48)) * 10 ^ length ds + number ds = number_after_is (0 * 10 + (d - 48)) ds in
    let p : 10 ^ (suc (length ds)) ≡ 10 ^ length ds * 10 = pow-suc 10 (length ds) in
    rw p (omega arith)

pub top_digit : (rest places unit : ℕ) → 0 < rest → rest < 10 ^ places → unit ≡ 10 ^ (places - 1) → rest / unit < 10
top_digit rest zero unit h g e = absurd (omega arith)
top_digit rest (suc k) unit h g e =
    let u : unit ≡ 10 ^ k = e ∙ ap (λ (x : ℕ). 10 ^ x) (omega arith) in
    let p : 10 ^ (suc k) ≡ 10 ^ k * 10 = pow-suc 10 k in
    rw u (div_below rest (10 ^ k) 10 (power_positive k) (omega arith))

places_length : (k n : ℕ) → length (places_of k n) ≤ k
places_length zero n = lit≤ tt
places_length (suc k) n = elim (n == 0) as (λ v. length (cond v [] (digit (n / 10 ^ k) ∷ places_of k (n % 10 ^ k))) ≤ suc k) [ true ↦ omega arith | false ↦ omega (arith, places_length k (n % 10 ^ k)) ]

places_digits : (k n : ℕ) → n < 10 ^ k → AllDigits (places_of k n)
places_digits zero n h = tt
places_digits (suc k) n h =
    let p : 10 ^ (suc k) ≡ 10 ^ k * 10 = pow-suc 10 k in
    let d : n / 10 ^ k < 10 = div_below n (10 ^ k) 10 (power_positive k) (omega arith) in
    let r : n % 10 ^ k < 10 ^ k = mod_below n (10 ^ k) (power_positive k) in
    elim (n == 0) as (λ v. AllDigits (cond v [] (digit (n / 10 ^ k) ∷ places_of k (n % 10 ^ k)))) [ true ↦ tt | false ↦ ((omega arith, omega arith), places_digits k (n % 10 ^ k) r) ]

places_step : (k n d r : ℕ) (ps : List ℕ) → n ≡ d * 10 ^ k + r → number ps * 10 ^ k ≡ r * 10 ^ length ps → number (digit d ∷ ps) * 10 ^ (suc k) ≡ n * 10 ^ length (digit d ∷ ps)
places_step k n d r ps e h =
    let a : number_after (0 * 10 + (48 + d - 48)) ps ≡ (0 * 10 + (48 + d - 48)) * 10 ^ length ps + number ps = number_after_is (0 * 10 + (48 + d - 48)) ps in
    let s : 0 * 10 + (48 + d - 48) ≡ d = omega arith in
    let b : number_after (0 * 10 + (48 + d - 48)) ps ≡ d * 10 ^ length ps + number ps = a ∙ ap (λ (x : ℕ). x * 10 ^ length ps + number ps) s in
    let p : 10 ^ (suc k) ≡ 10 ^ k * 10 = pow-suc 10 k in
    let q : 10 ^ (suc (length ps)) ≡ 10 ^ length ps * 10 = pow-suc 10 (length ps) in
    let f : (d * 10 ^ length ps + number ps) * (10 ^ k * 10) ≡ (d * 10 ^ k + r) * (10 ^ length ps * 10) = omega arith in
    rw (b, p, q, e) f

places_number : (k n : ℕ) → n < 10 ^ k → number (places_of k n) * 10 ^ k ≡ n * 10 ^ length (places_of k n)
places_number zero n h = omega arith
places_number (suc k) n h =
    let r : n % 10 ^ k < 10 ^ k = mod_below n (10 ^ k) (power_positive k) in
    let i : number (places_of k (n % 10 ^ k)) * 10 ^ k ≡ n % 10 ^ k * 10 ^ length (places_of k (n % 10 ^ k)) = places_number k (n % 10 ^ k) r in
    let e : n ≡ n / 10 ^ k * 10 ^ k + n % 10 ^ k = sym (div-add-mod' n (10 ^ k)) in
    places_cases k n (n == 0) refl (places_step k n (n / 10 ^ k) (n % 10 ^ k) (places_of k (n % 10 ^ k)) e i)
  where
    places_cases : (k n : ℕ) (v : Bool) → (n == 0) ≡ v → number (digit (n / 10 ^ k) ∷ places_of k (n % 10 ^ k)) * 10 ^ (suc k) ≡ n * 10 ^ length (digit (n / 10 ^ k) ∷ places_of k (n % 10 ^ k)) → number (cond v [] (digit (n / 10 ^ k) ∷ places_of k (n % 10 ^ k))) * 10 ^ (suc k) ≡ n * 10 ^ length (cond v [] (digit (n / 10 ^ k) ∷ places_of k (n % 10 ^ k)))
    places_cases k n true z h = let o : n ≡ 0 = grind (arith, nat_tests) in rw o (omega arith)
    places_cases k n false z h = h

-- the parts of the text
sign_is : (v : Bool) → IsSign (cond v (45 ∷ []) []) v
sign_is true = minus
sign_is false = none

point_is : (v : Bool) (xs : List ℕ) → AllDigits (cond v [] xs) → IsFraction (cond v [] (46 ∷ cond v [] xs)) (cond v [] xs)
point_is true xs h = no_point
point_is false xs h = point xs h

signed_is : (c : ℤ) → with_sign (int_lt c (pos 0)) (unsigned_abs c) ≡ c
signed_is (pos a) = let e : int_lt (pos a) (pos 0) ≡ false = grind (arith, nat_tests) in rw e refl
signed_is (negsuc a) = refl

parts_of_count : ℤ → Parts
parts_of_count c = record {
  negative = int_lt c (pos 0);
  whole = decimal (unsigned_abs c / 1000000);
  fraction = places_of 6 (unsigned_abs c % 1000000);
  exponent_negative = false;
  exponent = [];
}

rest_small : (n : ℕ) → n % 1000000 < 10 ^ 6
rest_small n = mod_below n 1000000 (lit< tt)

canon_spells : (c : ℤ) → Spells (canon c) (parts_of_count c)
unfolding canon parts_of_count
canon_spells c =
    let w : List ℕ = decimal (unsigned_abs c / 1000000) in
    let f : List ℕ = point_of (unsigned_abs c % 1000000) in
    record {
      sign = sign_of c;
      behind = f;
      last = [];
      is = append_assoc (sign_of c) w f ∙ ap (λ (xs : List ℕ). sign_of c ++ (w ++ xs)) (sym (append-nil f));
      signed = sign_is (int_lt c (pos 0));
      some = decimal_some (unsigned_abs c / 1000000);
      digits = decimal_digits (unsigned_abs c / 1000000);
      fraction_is = point_is (unsigned_abs c % 1000000 == 0) _ (places_digits 6 (unsigned_abs c % 1000000) (rest_small (unsigned_abs c)));
      exponent_is = no_exponent;
    }

canon_short : (c : ℤ) → InRange c → IsLong (parts_of_count c) → ⊥
unfolding parts_of_count
canon_short c h (inl k) =
    let a : length (decimal (unsigned_abs c / 1000000)) ≤ 20 = decimal_length (unsigned_abs c / 1000000) (omega arith) in
    let b : length (places_of 6 (unsigned_abs c % 1000000)) ≤ 6 = places_length 6 (unsigned_abs c % 1000000) in
    absurd (omega arith)
canon_short c h (inr k) = absurd (omega arith)

canon_value : (n : ℕ) → number (decimal (n / 1000000) ++ places_of 6 (n % 1000000)) * 1000000 ≡ n * 10 ^ length (places_of 6 (n % 1000000))
canon_value n =
    let w : ℕ = n / 1000000 in
    let f : ℕ = n % 1000000 in
    let ps : List ℕ = places_of 6 f in
    let a : number (decimal w ++ ps) ≡ number_after w ps = number_after-append 0 (decimal w) ps ∙ ap (λ (x : ℕ). number_after x ps) (decimal_number w) in
    let b : number_after w ps ≡ w * 10 ^ length ps + number ps = number_after_is w ps in
    let p : number ps * 1000000 ≡ f * 10 ^ length ps = places_number 6 f (rest_small n) in
    let e : w * 1000000 + f ≡ n = div-add-mod' n 1000000 in
    let g : (w * 10 ^ length ps + number ps) * 1000000 ≡ (w * 1000000 + f) * 10 ^ length ps = omega arith in
    ap (λ (x : ℕ). x * 1000000) (a ∙ b) ∙ g ∙ ap (λ (x : ℕ). x * 10 ^ length ps) e

canon_count : (c : ℤ) → CountIs (parts_of_count c) c
unfolding parts_of_count
canon_count c =
    let m : Bool = int_lt c (pos 0) in
    let n : ℕ = unsigned_abs c in
    let len : ℕ = length (places_of 6 (n % 1000000)) in
    let v : ℕ = number (decimal (n / 1000000) ++ places_of 6 (n % 1000000)) in
    let one : v * 1 * 1000000 ≡ v * 1000000 = omega arith in
    let plain : n * 10 ^ len ≡ n * 10 ^ (len + 0) = ap (λ (x : ℕ). n * 10 ^ x) (omega arith) in
    let a : with_sign m (v * 1) *ℤ pos 1000000 ≡ with_sign m (v * 1 * 1000000) = sign_times m (v * 1) 1000000 in
    let b : with_sign m (v * 1 * 1000000) ≡ with_sign m (n * 10 ^ (len + 0)) = ap (λ (x : ℕ). with_sign m x) (one ∙ canon_value n ∙ plain) in
    let d : with_sign m (n * 10 ^ (len + 0)) ≡ c *ℤ pos (10 ^ (len + 0)) = sym (sign_times m n (10 ^ (len + 0))) ∙ ap (λ (x : ℤ). x *ℤ pos (10 ^ (len + 0))) (signed_is c) in
    record { near = subst (λ (x : ℤ). IsNear x (10 ^ (len + 0)) c) (sym (a ∙ b ∙ d)) (near_whole c (10 ^ (len + 0)) (power_positive (len + 0))) }

-- The canonical text is read as the count that it is of.
pub canon_reads : (c : ℤ) → InRange c → parse_of (canon c) ≡ Ok c
canon_reads c h = parses_one (canon c) (Ok c) (parts_of_count c, canon_spells c, canon_short c h, canon_count c, h)
