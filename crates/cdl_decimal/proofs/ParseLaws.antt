-- What the bytes are read as meets the definition, and is the only answer that does.
use Rattle.std.proofs.Common.{ℕ, ◌<◌, ◌≡◌, ◌*ℤ◌, refl, ap, ◌∙◌, Bool, true, false, cond, arith, Option, Some, None, Result, Ok, Err, List}
use Rattle.std.specs.Prelude.{ℤ, pos, unsigned_abs, nat_le, ok_or}
use Rattle.std.proofs.lemmas.Bool.Decides.{nat_tests}
use Rattle.std.proofs.lemmas.Bool.{le-leb, leb-true, leb-false}
use Rattle.cdl_decimal.specs.Near.{InRange, near, in_range}
use Rattle.cdl_decimal.specs.Spells.{Parts, Spells, IsLong, CountIs, Parses, upper, lower}
use Rattle.cdl_decimal.specs.Split.{split, is_long, count_of, judged, parse_of}
use Rattle.cdl_decimal.specs.declared.numeral.DecimalError.{DecimalError}
use Rattle.cdl_decimal.specs.declared.numeral.DecimalError.TheVariants.{NotDecimal, TooLong, OutOfRange}
use Rattle.cdl_decimal.proofs.NearLaws.{near_is, near_one}
use Rattle.cdl_decimal.proofs.ScaleLaws.{power_positive, out_of_range}
use Rattle.cdl_decimal.proofs.SplitLaws.{sound, complete}

long_from : (p : Parts) → is_long p ≡ true → IsLong p
long_from p h = grind (arith, nat_tests)

long_true : (p : Parts) → IsLong p → is_long p ≡ true
long_true p h = grind (arith, nat_tests)

long_false : (p : Parts) → (IsLong p → ⊥) → is_long p ≡ false
long_false p h = elim (is_long p) as (λ v. is_long p ≡ v → is_long p ≡ false) [ true ↦ λ e. absurd (h (long_from p e)) | false ↦ λ e. e ] refl

not_long : (p : Parts) → is_long p ≡ false → IsLong p → ⊥
not_long p h k = let e : is_long p ≡ true = long_true p k in absurd (cc)

count_near : (p : Parts) → CountIs p (near (upper p *ℤ pos 1000000) (lower p))
count_near p = record { near = near_is (upper p *ℤ pos 1000000) (lower p) (power_positive _) }

count_one : (p : Parts) (q : ℤ) → CountIs p q → near (upper p *ℤ pos 1000000) (lower p) ≡ q
count_one p q c = near_one (upper p *ℤ pos 1000000) (near (upper p *ℤ pos 1000000) (lower p)) q (lower p) (power_positive _) (near_is (upper p *ℤ pos 1000000) (lower p) (power_positive _)) c.near

in_range_some : (z : ℤ) → InRange z → in_range z ≡ Some z
in_range_some z h = let t : nat_le (unsigned_abs z) 10000000000000000 ≡ true = le-leb _ _ h in rw t refl

in_range_none : (z : ℤ) → (InRange z → ⊥) → in_range z ≡ None
in_range_none z h = out_of_range z (omega arith)

ranged : (bytes : List ℕ) (p : Parts) (z : ℤ) (v : Bool) → nat_le (unsigned_abs z) 10000000000000000 ≡ v → Spells bytes p → (IsLong p → ⊥) → CountIs p z → Parses bytes (ok_or (cond v (Some z) None) OutOfRange)
ranged bytes p z true e s n c = (p, s, n, c, leb-true _ _ e)
ranged bytes p z false e s n c = (p, z, s, n, c, λ k. let f : 10000000000000000 < unsigned_abs z = leb-false _ _ e in absurd (omega arith))

measured : (bytes : List ℕ) (p : Parts) (v : Bool) → is_long p ≡ v → Spells bytes p → Parses bytes (cond v (Err TooLong) (ok_or (count_of p) OutOfRange))
unfolding count_of
measured bytes p true e s = (p, s, long_from p e)
measured bytes p false e s =
    ranged bytes p (near (upper p *ℤ pos 1000000) (lower p)) (nat_le (unsigned_abs (near (upper p *ℤ pos 1000000) (lower p))) 10000000000000000) refl s (not_long p e) (count_near p)

answered : (bytes : List ℕ) (o : Option Parts) → split bytes ≡ o → Parses bytes (judged o)
answered bytes None e = λ p s. let f : split bytes ≡ Some p = complete bytes p s in absurd (cc)
answered bytes (Some p) e = measured bytes p (is_long p) refl (sound bytes p e)

-- What the bytes are read as meets the definition.
pub parses_is : (bytes : List ℕ) → Parses bytes (parse_of bytes)
unfolding parse_of
parses_is bytes = answered bytes (split bytes) refl

short_is : (bytes : List ℕ) (p : Parts) (q : ℤ) → Spells bytes p → (IsLong p → ⊥) → CountIs p q → parse_of bytes ≡ ok_or (in_range q) OutOfRange
unfolding parse_of count_of
short_is bytes p q s n c =
    let e : split bytes ≡ Some p = complete bytes p s in
    let f : is_long p ≡ false = long_false p n in
    let g : near (upper p *ℤ pos 1000000) (lower p) ≡ q = count_one p q c in
    ap judged e ∙ (rw f (ap (λ (z : ℤ). ok_or (in_range z) OutOfRange) g))

none_split : (bytes : List ℕ) (o : Option Parts) → split bytes ≡ o → ((p : Parts) → Spells bytes p → ⊥) → o ≡ None
none_split bytes None e h = refl
none_split bytes (Some p) e h = absurd (h p (sound bytes p e))

-- No other answer meets the definition.
pub parses_one : (bytes : List ℕ) (r : Result ℤ DecimalError) → Parses bytes r → parse_of bytes ≡ r
unfolding parse_of
parses_one bytes (Ok q) h = short_is bytes h.0 q h.1 h.2 h.3 ∙ ap (λ (o : Option ℤ). ok_or o OutOfRange) (in_range_some q h.4)
parses_one bytes (Err NotDecimal) h = ap judged (none_split bytes (split bytes) refl h)
parses_one bytes (Err TooLong) h =
    let e : split bytes ≡ Some h.0 = complete bytes h.0 h.1 in
    let f : is_long h.0 ≡ true = long_true h.0 h.2 in
    ap judged e ∙ (rw f refl)
parses_one bytes (Err OutOfRange) h = short_is bytes h.0 h.1 h.2 h.3 h.4 ∙ ap (λ (o : Option ℤ). ok_or o OutOfRange) (in_range_none h.1 h.5)
