-- The split of a decimal text is its form, and there is one.
use Rattle.std.proofs.Common.{ℕ, ◌<◌, ◌≡◌, refl, sym, ap, subst, ◌∙◌, Bool, true, false, cond, ◌==◌, ◌&&◌, ◌||◌, nat_lt, List, [], ◌∷◌, ◌++◌, length, take, drop, arith, ◌⊎◌, inl, inr, Option, Some, None}
use Rattle.std.proofs.lemmas.Bool.Decides.{nat_tests}
use Rattle.std.proofs.lemmas.List.{take-append-drop}
use Rattle.std.proofs.lemmas.List.Sums.{take_while-cons}
use Rattle.std.proofs.lemmas.Bool.{and_parts, and_from}
use Rattle.std.proofs.Math.Seq.{take-append_seam, drop-append_seam}
use Rattle.std.specs.Char.{is_ascii_digit}
use Rattle.std.specs.List.{prefix_len, list_all}
use Rattle.cdl_decimal.specs.Spells.{IsDigit, AllDigits, IsSign, none, plus, minus, IsFraction, no_point, point, IsExponent, no_exponent, exponent, Parts, Spells}
use Rattle.cdl_decimal.specs.Split.{is_minus, after_sign, digits_front, digits_back, fraction_front, fraction_back, is_numeral, Exponent, exponent_of, parts_with, split, AreDigits}

digit_true : (d : ℕ) → IsDigit d → is_ascii_digit d ≡ true
digit_true d h = grind (arith, nat_tests)

digit_from_true : (d : ℕ) → is_ascii_digit d ≡ true → IsDigit d
digit_from_true d h = grind (arith, nat_tests)

-- the digits in front
front_step : (b : ℕ) (ds : List ℕ) (v : Bool) → is_ascii_digit b ≡ v → AllDigits ds → AllDigits (cond v (b ∷ ds) [])
front_step b ds true e h = (digit_from_true b e, h)
front_step b ds false e h = tt

pub front_digits : (bs : List ℕ) → AllDigits (digits_front bs)
front_digits [] = tt
front_digits (b ∷ bs) = rw (take_while-cons is_ascii_digit b bs) (front_step b (digits_front bs) (is_ascii_digit b) refl (front_digits bs))

all_digits : (ds : List ℕ) → list_all is_ascii_digit ds ≡ true → AllDigits ds
all_digits [] h = tt
all_digits (d ∷ ds) h =
    let k : (is_ascii_digit d ≡ true) × (list_all is_ascii_digit ds ≡ true) = and_parts (is_ascii_digit d) (list_all is_ascii_digit ds) h in
    (digit_from_true d k.0, all_digits ds k.1)

list_all_digits : (ds : List ℕ) → AllDigits ds → list_all is_ascii_digit ds ≡ true
list_all_digits [] h = refl
list_all_digits (d ∷ ds) h = and_from (is_ascii_digit d) (list_all is_ascii_digit ds) (digit_true d h.0) (list_all_digits ds h.1)

abbrev StartsNoDigit : List ℕ → Type 0
StartsNoDigit [] = Unit {0}
StartsNoDigit (b ∷ bs) = is_ascii_digit b ≡ false

front_len : (ds r : List ℕ) → AllDigits ds → StartsNoDigit r → prefix_len is_ascii_digit (ds ++ r) ≡ length ds
front_len [] [] h k = refl
front_len [] (b ∷ bs) h k = rw k refl
front_len (d ∷ ds) r h k =
    let e : is_ascii_digit d ≡ true = digit_true d h.0 in
    let i : prefix_len is_ascii_digit (ds ++ r) ≡ length ds = front_len ds r h.1 k in
    rw (e, i) (omega arith)

front_is : (ds r : List ℕ) → AllDigits ds → StartsNoDigit r → digits_front (ds ++ r) ≡ ds
front_is ds r h k = ap (λ n. take n (ds ++ r)) (front_len ds r h k) ∙ take-append_seam ds r

back_is : (ds r : List ℕ) → AllDigits ds → StartsNoDigit r → digits_back (ds ++ r) ≡ r
back_is ds r h k = ap (λ n. drop n (ds ++ r)) (front_len ds r h k) ∙ drop-append_seam ds r

-- the sign
sign_step : (b : ℕ) (bs : List ℕ) (v w : Bool) → (b == 45) ≡ v → (b == 43) ≡ w → (s : List ℕ) × IsSign s v × ((b ∷ bs) ≡ s ++ cond (v || w) bs (b ∷ bs))
sign_step b bs true w e f = let g : b ≡ 45 = grind (arith, nat_tests) in (45 ∷ [], minus, ap (λ x. x ∷ bs) g)
sign_step b bs false true e f = let g : b ≡ 43 = grind (arith, nat_tests) in (43 ∷ [], plus, ap (λ x. x ∷ bs) g)
sign_step b bs false false e f = ([], none, refl)

sign_split : (bs : List ℕ) → (s : List ℕ) × IsSign s (is_minus bs) × (bs ≡ s ++ after_sign bs)
sign_split [] = ([], none, refl)
sign_split (b ∷ bs) = sign_step b bs (b == 45) (b == 43) refl refl

no_sign : (d : ℕ) → IsDigit d → ((d == 45) ≡ false) × ((d == 43) ≡ false)
no_sign d h = (grind (arith, nat_tests), grind (arith, nat_tests))

minus_is : (s : List ℕ) (m : Bool) (d : ℕ) (ds : List ℕ) → IsSign s m → IsDigit d → is_minus (s ++ d ∷ ds) ≡ m
minus_is s m d ds none h = (no_sign d h).0
minus_is s m d ds plus h = refl
minus_is s m d ds minus h = refl

after_is : (s : List ℕ) (m : Bool) (d : ℕ) (ds : List ℕ) → IsSign s m → IsDigit d → after_sign (s ++ d ∷ ds) ≡ d ∷ ds
after_is s m d ds none h = rw ((no_sign d h).0, (no_sign d h).1) refl
after_is s m d ds plus h = refl
after_is s m d ds minus h = refl

-- the fraction
fraction_step : (b : ℕ) (bs : List ℕ) (v : Bool) → (b == 46) ≡ v → (s : List ℕ) × IsFraction s (cond v (digits_front bs) []) × ((b ∷ bs) ≡ s ++ cond v (digits_back bs) (b ∷ bs))
fraction_step b bs true e =
    let g : b ≡ 46 = grind (arith, nat_tests) in
    (46 ∷ digits_front bs, point (digits_front bs) (front_digits bs), ap (λ x. x ∷ bs) g ∙ ap (λ xs. 46 ∷ xs) (sym (take-append-drop (prefix_len is_ascii_digit bs) bs)))
fraction_step b bs false e = ([], no_point, refl)

fraction_split : (bs : List ℕ) → (s : List ℕ) × IsFraction s (fraction_front bs) × (bs ≡ s ++ fraction_back bs)
fraction_split [] = ([], no_point, refl)
fraction_split (b ∷ bs) = fraction_step b bs (b == 46) refl

abbrev StartsExponent : List ℕ → Type 0
StartsExponent [] = Unit {0}
StartsExponent (b ∷ bs) = (b ≡ 69) ⊎ (b ≡ 101)

exponent_starts : (last ds : List ℕ) (m : Bool) → IsExponent last m ds → StartsExponent last
exponent_starts last ds m no_exponent = tt
exponent_starts last ds m (exponent e s xs n h sg some dig) = h

mark_tests : (b : ℕ) → (b ≡ 69) ⊎ (b ≡ 101) → (is_ascii_digit b ≡ false) × ((b == 46) ≡ false) × ((b == 101 || b == 69) ≡ true)
mark_tests b (inl h) = rw h (refl, refl, refl)
mark_tests b (inr h) = rw h (refl, refl, refl)

exponent_no_digit : (last : List ℕ) → StartsExponent last → StartsNoDigit last
exponent_no_digit [] h = tt
exponent_no_digit (b ∷ bs) h = (mark_tests b h).0

behind_no_digit : (s f last : List ℕ) → IsFraction s f → StartsExponent last → StartsNoDigit (s ++ last)
behind_no_digit s f last no_point h = exponent_no_digit last h
behind_no_digit s f last (point ds g) h = refl

no_fraction_front : (last : List ℕ) → StartsExponent last → fraction_front last ≡ []
no_fraction_front [] h = refl
no_fraction_front (b ∷ bs) h = rw ((mark_tests b h).1) refl

no_fraction_back : (last : List ℕ) → StartsExponent last → fraction_back last ≡ last
no_fraction_back [] h = refl
no_fraction_back (b ∷ bs) h = rw ((mark_tests b h).1) refl

fraction_front_is : (s f last : List ℕ) → IsFraction s f → StartsExponent last → fraction_front (s ++ last) ≡ f
fraction_front_is s f last no_point h = no_fraction_front last h
fraction_front_is s f last (point ds g) h = front_is ds last g (exponent_no_digit last h)

fraction_back_is : (s f last : List ℕ) → IsFraction s f → StartsExponent last → fraction_back (s ++ last) ≡ last
fraction_back_is s f last no_point h = no_fraction_back last h
fraction_back_is s f last (point ds g) h = back_is ds last g (exponent_no_digit last h)

-- the exponent
numeral_true : (ds : List ℕ) → 0 < length ds → AllDigits ds → is_numeral ds ≡ true
numeral_true ds h g = and_from (nat_lt 0 (length ds)) (list_all is_ascii_digit ds) (grind (arith, nat_tests)) (list_all_digits ds g)

exponent_is : (last ds : List ℕ) (m : Bool) → IsExponent last m ds → exponent_of last ≡ Some (record { negative = m; digits = ds })
exponent_is last ds m no_exponent = refl
exponent_is last ds m (exponent e s [] n h sg some dig) = absurd (omega arith)
exponent_is last ds m (exponent e s (x ∷ xs) n h sg some dig) =
    let a : (e == 101 || e == 69) ≡ true = (mark_tests e h).2 in
    let b : after_sign (s ++ x ∷ xs) ≡ x ∷ xs = after_is s n x xs sg dig.0 in
    let c : is_minus (s ++ x ∷ xs) ≡ n = minus_is s n x xs sg dig.0 in
    let d : is_numeral (x ∷ xs) ≡ true = numeral_true (x ∷ xs) some dig in
    rw (b, c, and_from (e == 101 || e == 69) (is_numeral (x ∷ xs)) a d) refl

mark_from : (b : ℕ) → (b == 101 || b == 69) ≡ true → (b ≡ 69) ⊎ (b ≡ 101)
mark_from b h = grind (arith, nat_tests)

exponent_step : (b : ℕ) (bs : List ℕ) (v : Bool) (x : Exponent) → ((b == 101 || b == 69) && is_numeral (after_sign bs)) ≡ v → cond v (Some (record { negative = is_minus bs; digits = after_sign bs })) None ≡ Some x → IsExponent (b ∷ bs) x.negative x.digits
exponent_step b bs false x e h = absurd (cc)
exponent_step b bs true x e h =
    let a : ((b == 101 || b == 69) ≡ true) × (is_numeral (after_sign bs) ≡ true) = and_parts (b == 101 || b == 69) (is_numeral (after_sign bs)) e in
    let c : (nat_lt 0 (length (after_sign bs)) ≡ true) × (list_all is_ascii_digit (after_sign bs) ≡ true) = and_parts (nat_lt 0 (length (after_sign bs))) (list_all is_ascii_digit (after_sign bs)) a.1 in
    let some : 0 < length (after_sign bs) = grind (arith, nat_tests) in
    let s = sign_split bs in
    let made : IsExponent (b ∷ s.0 ++ after_sign bs) (is_minus bs) (after_sign bs) = exponent b s.0 (after_sign bs) (is_minus bs) (mark_from b a.0) s.1 some (all_digits (after_sign bs) c.1) in
    let whole : IsExponent (b ∷ bs) (is_minus bs) (after_sign bs) = subst (λ (xs : List ℕ). IsExponent (b ∷ xs) (is_minus bs) (after_sign bs)) (sym s.2) made in
    let y : Exponent = record { negative = is_minus bs; digits = after_sign bs } in
    let g : y ≡ x = cc in
    subst (λ (z : Exponent). IsExponent (b ∷ bs) z.negative z.digits) g whole

exponent_sound : (last : List ℕ) (x : Exponent) → exponent_of last ≡ Some x → IsExponent last x.negative x.digits
exponent_sound [] x h =
    let y : Exponent = record { negative = false; digits = [] } in
    let g : y ≡ x = cc in
    subst (λ (z : Exponent). IsExponent [] z.negative z.digits) g no_exponent
exponent_sound (b ∷ bs) x h = exponent_step b bs ((b == 101 || b == 69) && is_numeral (after_sign bs)) x refl h

-- the whole text
split_is : (bytes body whole rest f last : List ℕ) (m : Bool) (e : Option Exponent) → is_minus bytes ≡ m → after_sign bytes ≡ body → digits_front body ≡ whole → digits_back body ≡ rest → fraction_front rest ≡ f → fraction_back rest ≡ last → exponent_of last ≡ e → split bytes ≡ cond (length whole == 0) None (parts_with m whole f e)
unfolding split
split_is bytes body whole rest f last m e h1 h2 h3 h4 h5 h6 h7 = rw (h1, h2, h3, h4, h5, h6, h7) refl

complete_parts : (sign whole behind last f e : List ℕ) (m em : Bool) → IsSign sign m → 0 < length whole → AllDigits whole → IsFraction behind f → IsExponent last em e → split (sign ++ (whole ++ (behind ++ last))) ≡ Some (record { negative = m; whole = whole; fraction = f; exponent_negative = em; exponent = e })
complete_parts sign [] behind last f e m em sg some dig fr ex = absurd (omega arith)
complete_parts sign (d ∷ ds) behind last f e m em sg some dig fr ex =
    let st : StartsExponent last = exponent_starts last e em ex in
    let r : StartsNoDigit (behind ++ last) = behind_no_digit behind f last fr st in
    let n : (length (d ∷ ds) == 0) ≡ false = grind (arith, nat_tests) in
    let w : split (sign ++ (d ∷ ds ++ (behind ++ last))) ≡ cond (length (d ∷ ds) == 0) None (parts_with m (d ∷ ds) f (Some (record { negative = em; digits = e }))) = split_is (sign ++ (d ∷ ds ++ (behind ++ last))) (d ∷ ds ++ (behind ++ last)) (d ∷ ds) (behind ++ last) f last m (Some (record { negative = em; digits = e }))
    (minus_is sign m d (ds ++ (behind ++ last)) sg dig.0)
    (after_is sign m d (ds ++ (behind ++ last)) sg dig.0)
    (front_is (d ∷ ds) (behind ++ last) dig r)
    (back_is (d ∷ ds) (behind ++ last) dig r)
    (fraction_front_is behind f last fr st)
    (fraction_back_is behind f last fr st)
    (exponent_is last e em ex) in
    w ∙ (rw n refl)

-- A text that spells these parts is split into them.
pub complete : (bytes : List ℕ) (p : Parts) → Spells bytes p → split bytes ≡ Some p
complete bytes p s = ap split s.is ∙ complete_parts s.sign p.whole s.behind s.last p.fraction p.exponent p.negative p.exponent_negative s.signed s.some s.digits s.fraction_is s.exponent_is

record Found (m : Bool) (w f : List ℕ) (e : Option Exponent) (v : Bool) (p : Parts) : Type 0 where
  x : Exponent
  some : v ≡ false
  found : e ≡ Some x
  is : p ≡ record { negative = m; whole = w; fraction = f; exponent_negative = x.negative; exponent = x.digits }

found_parts : (m : Bool) (w f : List ℕ) (e : Option Exponent) (v : Bool) (p : Parts) → cond v None (parts_with m w f e) ≡ Some p → Found m w f e v p
found_parts m w f e true p h = absurd (cc)
found_parts m w f None false p h = absurd (cc)
found_parts m w f (Some y) false p h = record { x = y; some = refl; found = refl; is = cc }

-- The parts into which a text is split are spelled by it.
pub sound : (bytes : List ℕ) (p : Parts) → split bytes ≡ Some p → Spells bytes p
unfolding split
sound bytes p h =
    let body = after_sign bytes in
    let rest = digits_back body in
    let g = found_parts (is_minus bytes) (digits_front body) (fraction_front rest) (exponent_of (fraction_back rest)) (length (digits_front body) == 0) p h in
    let s = sign_split bytes in
    let t = fraction_split rest in
    let n : 0 < length (digits_front body) = let k : (length (digits_front body) == 0) ≡ false = g.some in grind (arith, nat_tests) in
    let ex : IsExponent (fraction_back rest) g.x.negative g.x.digits = exponent_sound (fraction_back rest) g.x g.found in
    let q : Parts = record { negative = is_minus bytes; whole = digits_front body; fraction = fraction_front rest; exponent_negative = g.x.negative; exponent = g.x.digits } in
    let parted : body ≡ digits_front body ++ rest = sym (take-append-drop (prefix_len is_ascii_digit body) body) in
    let made : Spells bytes q = record {
      sign = s.0;
      behind = t.0;
      last = fraction_back rest;
      is = s.2 ∙ ap (λ xs. s.0 ++ xs) (parted ∙ ap (λ xs. digits_front body ++ xs) t.2);
      signed = s.1;
      some = n;
      digits = front_digits body;
      fraction_is = t.1;
      exponent_is = ex;
    } in
    subst (λ (z : Parts). Spells bytes z) (sym g.is) made

fraction_digits : (s f : List ℕ) → IsFraction s f → AllDigits f
fraction_digits s f no_point = tt
fraction_digits s f (point ds h) = h

exponent_digits : (last ds : List ℕ) (m : Bool) → IsExponent last m ds → AllDigits ds
exponent_digits last ds m no_exponent = tt
exponent_digits last ds m (exponent e s xs n h sg some dig) = dig

pub split_digits : (bytes : List ℕ) (p : Parts) → split bytes ≡ Some p → AreDigits p
split_digits bytes p h =
    let s : Spells bytes p = sound bytes p h in
    record {
      whole = s.digits;
      fraction = fraction_digits s.behind p.fraction s.fraction_is;
      exponent = exponent_digits s.last p.exponent p.exponent_negative s.exponent_is;
    }
