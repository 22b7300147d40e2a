-- Numbers: the longest that begins some bytes.
use Rattle.std.proofs.Common.{◌≡◌, ◌⊎◌, inl, inr, ℕ, ◌+◌, ◌<◌, ◌≤◌, Bool, true, false, ◌||◌, ◌==◌, [], ◌∷◌, ◌++◌, length, drop, refl, sym, ap, ◌∙◌, subst, arith, if◌then◌else◌, append_assoc, length-append}
use Rattle.std.proofs.lemmas.Bool.{eqb-true}
use Rattle.std.proofs.lemmas.Bool.Decides.{nat_tests}
use Rattle.std.proofs.Math.Seq.{drop-append_seam, drop-append-add}
use Rattle.std.specs.List.{prefix_len}
use Rattle.cdl_source.specs.Identifiers.{is_digit}
use Rattle.cdl_decimal.specs.Spells.{AllDigits, IsSign, none, plus, minus, IsFraction, no_point, point, IsExponent, no_exponent, exponent}
use Rattle.cdl_lex.specs.Spellings.{Bytes}
use Rattle.cdl_lex.specs.Steps.{fraction_len, sign_len, with_digits, exponent_len, tail_len}
use Rattle.cdl_lex.proofs.Runs.{Cut, cut, run_cuts, run_through}
use Rattle.cdl_lex.proofs.Spelled.{digit_is, digits_pass, passing_digits, IsNumber}

abbrev pub number_len : Bytes → ℕ
number_len b = prefix_len is_digit b + tail_len (drop (prefix_len is_digit b) b)

-- ---- no number is longer

digits_through : (ds b : Bytes) → AllDigits ds → prefix_len is_digit (ds ++ b) ≡ length ds + prefix_len is_digit b
digits_through ds b all = run_through is_digit ds b (digits_pass ds all)

some_digits : (sign digits : ℕ) → 0 < digits → with_digits sign digits ≡ 1 + sign + digits
some_digits sign digits more = ap (λ q. if q then 0 else 1 + sign + digits) (eqb-no digits more)
  where
    eqb-no : (n : ℕ) → 0 < n → (n == 0) ≡ false
    eqb-no n h = grind (arith, nat_tests)

exponent_here : (e : ℕ) (cs : Bytes) → (e ≡ 69) ⊎ (e ≡ 101) → exponent_len (e ∷ cs) ≡ with_digits (sign_len cs) (prefix_len is_digit (drop (sign_len cs) cs))
unfolding exponent_len
exponent_here e cs which = elim which [
  | inl same ↦ ap (λ z. if z == 69 || z == 101 then with_digits (sign_len cs) (prefix_len is_digit (drop (sign_len cs) cs)) else 0) same
  | inr same ↦ ap (λ z. if z == 69 || z == 101 then with_digits (sign_len cs) (prefix_len is_digit (drop (sign_len cs) cs)) else 0) same
]

digit_no_sign : (c : ℕ) → is_digit c ≡ true → (c == 43 || c == 45) ≡ false
digit_no_sign c e = grind (arith, nat_tests)

sign_through : {s : Bytes} {m : Bool} → IsSign s m → (ds b : Bytes) → 0 < length ds → AllDigits ds → sign_len (s ++ (ds ++ b)) ≡ length s
unfolding sign_len
sign_through none [] b some all = let never : ⊥ = omega arith in absurd never
sign_through none (d ∷ ds) b some all = ap (λ q. if q then 1 else 0) (digit_no_sign d (digit_is d all.0))
sign_through plus ds b some all = refl
sign_through minus ds b some all = refl

exponent_most : {x xs : Bytes} {m : Bool} → IsExponent x m xs → (r : Bytes) → length x ≤ exponent_len (x ++ r)
exponent_most no_exponent r = omega arith
exponent_most (exponent e s ds m which sign some all) r =
    let shift : (s ++ ds) ++ r ≡ s ++ (ds ++ r) = append_assoc s ds r in
    let size : sign_len ((s ++ ds) ++ r) ≡ length s = ap sign_len shift ∙ sign_through sign ds r some all in
    let left : drop (sign_len ((s ++ ds) ++ r)) ((s ++ ds) ++ r) ≡ ds ++ r = ap (λ n. drop n ((s ++ ds) ++ r)) size ∙ ap (drop (length s)) shift ∙ drop-append_seam s (ds ++ r) in
    let digits : prefix_len is_digit (drop (sign_len ((s ++ ds) ++ r)) ((s ++ ds) ++ r)) ≡ length ds + prefix_len is_digit r = ap (prefix_len is_digit) left ∙ digits_through ds r all in
    let more : 0 < length ds + prefix_len is_digit r = omega arith in
    let whole : exponent_len (e ∷ ((s ++ ds) ++ r)) ≡ 1 + length s + (length ds + prefix_len is_digit r) =
    exponent_here e ((s ++ ds) ++ r) which ∙ ap (λ n. with_digits n (prefix_len is_digit (drop (sign_len ((s ++ ds) ++ r)) ((s ++ ds) ++ r)))) size ∙ ap (with_digits (length s)) digits ∙ some_digits (length s) (length ds + prefix_len is_digit r) more in
    let both : length (s ++ ds) ≡ length s + length ds = length-append s ds in
    subst (λ z. length (e ∷ (s ++ ds)) ≤ z) (sym whole) (omega arith)

letter_no_digit : (e : ℕ) → (e ≡ 69) ⊎ (e ≡ 101) → is_digit e ≡ false
letter_no_digit e which = elim which [ inl same ↦ ap is_digit same | inr same ↦ ap is_digit same ]

letter_no_point : (e : ℕ) → (e ≡ 69) ⊎ (e ≡ 101) → (e == 46) ≡ false
letter_no_point e which = elim which [ inl same ↦ ap (λ z. z == 46) same | inr same ↦ ap (λ z. z == 46) same ]

-- an exponent stands behind no digits, or there is none
exponent_first : {x xs : Bytes} {m : Bool} → IsExponent x m xs → (r : Bytes) → (length x ≡ 0) ⊎ (prefix_len is_digit (x ++ r) ≡ 0)
exponent_first no_exponent r = inl refl
exponent_first (exponent e s ds m which sign some all) r = inr (ap (λ q. if q then 1 + prefix_len is_digit ((s ++ ds) ++ r) else 0) (letter_no_digit e which))

exponent_no_fraction : {x xs : Bytes} {m : Bool} → IsExponent x m xs → (r : Bytes) → (length x ≡ 0) ⊎ (fraction_len (x ++ r) ≡ 0)
unfolding fraction_len
exponent_no_fraction no_exponent r = inl refl
exponent_no_fraction (exponent e s ds m which sign some all) r = inr (ap (λ q. if q then 1 + prefix_len is_digit ((s ++ ds) ++ r) else 0) (letter_no_point e which))

-- behind k digits of what begins with a fraction or an exponent
tail_most : {f x fs xs : Bytes} {m : Bool} → IsFraction f fs → IsExponent x m xs → (r : Bytes)
    → length f + length x ≤ prefix_len is_digit (f ++ (x ++ r)) + tail_len (drop (prefix_len is_digit (f ++ (x ++ r))) (f ++ (x ++ r)))
unfolding tail_len fraction_len
tail_most {x = x} no_point h r =
    elim (exponent_first h r) [
      | inl empty ↦ omega arith
      | inr first ↦
          elim (exponent_no_fraction h r) [
            | inl empty ↦ omega arith
            | inr none_here ↦
                let most : length x ≤ exponent_len (x ++ r) = exponent_most h r in
                let tail : tail_len (x ++ r) ≡ exponent_len (x ++ r) =
                ap (λ n. n + exponent_len (drop n (x ++ r))) none_here ∙ (let z : 0 + exponent_len (x ++ r) ≡ exponent_len (x ++ r) = omega arith in z) in
                let at : drop (prefix_len is_digit (x ++ r)) (x ++ r) ≡ x ++ r = ap (λ n. drop n (x ++ r)) first in
                let whole : tail_len (drop (prefix_len is_digit (x ++ r)) (x ++ r)) ≡ exponent_len (x ++ r) = ap tail_len at ∙ tail in
                omega arith
          ]
    ]
tail_most {x = x} (point fs all) h r =
    let digits : prefix_len is_digit (fs ++ (x ++ r)) ≡ length fs + prefix_len is_digit (x ++ r) = digits_through fs (x ++ r) all in
    let size : fraction_len (46 ∷ (fs ++ (x ++ r))) ≡ 1 + (length fs + prefix_len is_digit (x ++ r)) = ap (λ n. 1 + n) digits in
    elim (exponent_first h r) [
      | inl empty ↦ omega arith
      | inr first ↦
          let most : length x ≤ exponent_len (x ++ r) = exponent_most h r in
          let exact : fraction_len (46 ∷ (fs ++ (x ++ r))) ≡ 1 + length fs = size ∙ ap (λ n. 1 + (length fs + n)) first ∙ omega arith in
          let cut_size : length (46 ∷ fs) ≡ 1 + length fs = omega arith in
          let left : drop (fraction_len (46 ∷ (fs ++ (x ++ r)))) (46 ∷ (fs ++ (x ++ r))) ≡ x ++ r =
          ap (λ n. drop n (46 ∷ (fs ++ (x ++ r)))) (exact ∙ sym cut_size) ∙ drop-append_seam (46 ∷ fs) (x ++ r) in
          let whole : tail_len (46 ∷ (fs ++ (x ++ r))) ≡ (1 + length fs) + exponent_len (x ++ r) =
          ap (λ n. n + exponent_len (drop (fraction_len (46 ∷ (fs ++ (x ++ r)))) (46 ∷ (fs ++ (x ++ r))))) exact ∙ ap (λ z. (1 + length fs) + exponent_len z) left in
          omega arith
    ]

pub number_most : (w r : Bytes) → IsNumber w → length w ≤ number_len (w ++ r)
number_most w r n =
    let q : Bytes = n.f ++ (n.x ++ r) in
    let whole : w ++ r ≡ n.ds ++ q = ap (λ z. z ++ r) n.is ∙ append_assoc n.ds (n.f ++ n.x) r ∙ ap (λ z. n.ds ++ z) (append_assoc n.f n.x r) in
    let digits : prefix_len is_digit (n.ds ++ q) ≡ length n.ds + prefix_len is_digit q = digits_through n.ds q n.digits in
    let left : drop (prefix_len is_digit (n.ds ++ q)) (n.ds ++ q) ≡ drop (prefix_len is_digit q) q = ap (λ z. drop z (n.ds ++ q)) digits ∙ drop-append-add n.ds q (prefix_len is_digit q) in
    let most : length n.f + length n.x ≤ prefix_len is_digit q + tail_len (drop (prefix_len is_digit q) q) = tail_most n.fraction_is n.exponent_is r in
    let size : length w ≡ length n.ds + (length n.f + length n.x) = ap length n.is ∙ length-append n.ds (n.f ++ n.x) ∙ ap (λ z. length n.ds + z) (length-append n.f n.x) in
    let len : number_len (w ++ r) ≡ (length n.ds + prefix_len is_digit q) + tail_len (drop (prefix_len is_digit q) q) =
    ap number_len whole ∙ ap (λ z. z + tail_len (drop (prefix_len is_digit (n.ds ++ q)) (n.ds ++ q))) digits ∙ ap (λ z. (length n.ds + prefix_len is_digit q) + tail_len z) left in
    omega arith

-- ---- one is as long

pub record CutFraction (b : Bytes) : Type 0 where
  pub f : Bytes
  pub r : Bytes
  pub fs : Bytes
  pub is : b ≡ f ++ r
  pub fraction_is : IsFraction f fs
  pub size : fraction_len b ≡ length f

pub record CutExponent (b : Bytes) : Type 0 where
  pub x : Bytes
  pub r : Bytes
  pub xs : Bytes
  pub m : Bool
  pub is : b ≡ x ++ r
  pub exponent_is : IsExponent x m xs
  pub size : exponent_len b ≡ length x

no_fraction : (b : Bytes) → fraction_len b ≡ 0 → CutFraction b
no_fraction b e = record { f = []; r = b; fs = []; is = refl; fraction_is = no_point; size = e }

point_cut : (c : ℕ) (b : Bytes) (n : ℕ) → (c == 46) ≡ true → fraction_len (c ∷ b) ≡ 1 + n → Cut is_digit b n → CutFraction (c ∷ b)
point_cut c _ _ e size (cut s r all stop) =
    record { f = 46 ∷ s; r = r; fs = s; is = ap (λ z. z ∷ (s ++ r)) (eqb-true c 46 e); fraction_is = point s (passing_digits s all); size = size ∙ (let z : 1 + length s ≡ length (46 ∷ s) = omega arith in z) }

cut_fraction : (b : Bytes) → CutFraction b
unfolding fraction_len
cut_fraction [] = no_fraction [] refl
cut_fraction (c ∷ b) = go (c == 46) refl
  where
    go : (q : Bool) → (c == 46) ≡ q → CutFraction (c ∷ b)
    go true e = point_cut c b (prefix_len is_digit b) e (ap (λ q. if q then 1 + prefix_len is_digit b else 0) e) (run_cuts is_digit b)
    go false e = no_fraction (c ∷ b) (ap (λ q. if q then 1 + prefix_len is_digit b else 0) e)

no_exponent_cut : (b : Bytes) → exponent_len b ≡ 0 → CutExponent b
no_exponent_cut b e = record { x = []; r = b; xs = []; m = false; is = refl; exponent_is = no_exponent; size = e }

pub record CutSign (b : Bytes) : Type 0 where
  pub s : Bytes
  pub r : Bytes
  pub m : Bool
  pub is : b ≡ s ++ r
  pub sign_is : IsSign s m
  pub size : sign_len b ≡ length s

cut_sign : (b : Bytes) → CutSign b
unfolding sign_len
cut_sign [] = record { s = []; r = []; m = false; is = refl; sign_is = none; size = refl }
cut_sign (c ∷ b) = go (c == 43) (c == 45) refl refl
  where
    go : (p q : Bool) → (c == 43) ≡ p → (c == 45) ≡ q → CutSign (c ∷ b)
    go true q e f = record { s = 43 ∷ []; r = b; m = false; is = ap (λ z. z ∷ b) (eqb-true c 43 e); sign_is = plus; size = ap (λ q. if q || c == 45 then 1 else 0) e }
    go false true e f = record { s = 45 ∷ []; r = b; m = true; is = ap (λ z. z ∷ b) (eqb-true c 45 f); sign_is = minus; size = ap (λ q. if q || c == 45 then 1 else 0) e ∙ ap (λ q. if q then 1 else 0) f }
    go false false e f = record { s = []; r = c ∷ b; m = false; is = refl; sign_is = none; size = ap (λ q. if q || c == 45 then 1 else 0) e ∙ ap (λ q. if q then 1 else 0) f }

letter_of : (c : ℕ) → (c == 69 || c == 101) ≡ true → (c ≡ 69) ⊎ (c ≡ 101)
letter_of c e = go (c == 69) refl e
  where
    go : (q : Bool) → (c == 69) ≡ q → (q || c == 101) ≡ true → (c ≡ 69) ⊎ (c ≡ 101)
    go true f h = inl (eqb-true c 69 f)
    go false f h = inr (eqb-true c 101 h)

digits_cut : (c : ℕ) (b s t : Bytes) (m : Bool) (n : ℕ) → (c ≡ 69) ⊎ (c ≡ 101) → b ≡ s ++ t → IsSign s m → exponent_len (c ∷ b) ≡ with_digits (length s) n → Cut is_digit t n → CutExponent (c ∷ b)
digits_cut c b s _ m _ which is sign size (cut [] r all stop) = no_exponent_cut (c ∷ b) size
digits_cut c b s _ m _ which is sign size (cut (d ∷ ds) r all stop) =
    let more : 0 < length (d ∷ ds) = omega arith in
    let both : length (s ++ d ∷ ds) ≡ length s + length (d ∷ ds) = length-append s (d ∷ ds) in
    let whole : 1 + length s + length (d ∷ ds) ≡ length (c ∷ (s ++ d ∷ ds)) = omega arith in
    record {
      x = c ∷ (s ++ d ∷ ds);
      r = r;
      xs = d ∷ ds;
      m = m;
      is = ap (λ z. c ∷ z) (is ∙ sym (append_assoc s (d ∷ ds) r));
      exponent_is = exponent c s (d ∷ ds) m which sign more (passing_digits (d ∷ ds) all);
      size = size ∙ some_digits (length s) (length (d ∷ ds)) more ∙ whole;
    }

cut_exponent : (b : Bytes) → CutExponent b
unfolding exponent_len
cut_exponent [] = no_exponent_cut [] refl
cut_exponent (c ∷ b) = go (c == 69 || c == 101) refl (cut_sign b)
  where
    go : (q : Bool) → (c == 69 || c == 101) ≡ q → CutSign b → CutExponent (c ∷ b)
    go false e k = no_exponent_cut (c ∷ b) (ap (λ q. if q then with_digits (sign_len b) (prefix_len is_digit (drop (sign_len b) b)) else 0) e)
    go true e k =
        let left : drop (sign_len b) b ≡ k.r = ap (λ n. drop n b) k.size ∙ ap (drop (length k.s)) k.is ∙ drop-append_seam k.s k.r in
        digits_cut c b k.s k.r k.m (prefix_len is_digit k.r) (letter_of c e) k.is k.sign_is
        (ap (λ q. if q then with_digits (sign_len b) (prefix_len is_digit (drop (sign_len b) b)) else 0) e
        ∙ ap (λ n. with_digits n (prefix_len is_digit (drop (sign_len b) b))) k.size ∙ ap (λ z. with_digits (length k.s) (prefix_len is_digit z)) left)
        (run_cuts is_digit k.r)

pub record CutNumber (b : Bytes) (n : ℕ) : Type 0 where
  pub r : Bytes
  pub ds : Bytes
  pub f : Bytes
  pub x : Bytes
  pub fs : Bytes
  pub xs : Bytes
  pub m : Bool
  pub is : b ≡ (ds ++ (f ++ x)) ++ r
  pub digits : AllDigits ds
  pub fraction_is : IsFraction f fs
  pub exponent_is : IsExponent x m xs
  pub whole : n ≡ length ds
  pub tail : tail_len (drop n b) ≡ length (f ++ x)

from_digits : (b : Bytes) (n : ℕ) → Cut is_digit b n → CutNumber b n
unfolding tail_len
from_digits _ _ (cut ds q all stop) =
    let p = cut_fraction q in
    let e = cut_exponent p.r in
    let behind : drop (length ds) (ds ++ q) ≡ q = drop-append_seam ds q in
    let left : drop (fraction_len q) q ≡ p.r = ap (λ n. drop n q) p.size ∙ ap (drop (length p.f)) p.is ∙ drop-append_seam p.f p.r in
    let tail : tail_len q ≡ length p.f + length e.x = ap (λ n. n + exponent_len (drop (fraction_len q) q)) p.size ∙ ap (λ z. length p.f + exponent_len z) left ∙ ap (λ n. length p.f + n) e.size in
    let rest : q ≡ (p.f ++ e.x) ++ e.r = p.is ∙ ap (λ z. p.f ++ z) e.is ∙ sym (append_assoc p.f e.x e.r) in
    record {
      r = e.r;
      ds = ds;
      f = p.f;
      x = e.x;
      fs = p.fs;
      xs = e.xs;
      m = e.m;
      is = ap (λ z. ds ++ z) rest ∙ sym (append_assoc ds (p.f ++ e.x) e.r);
      digits = passing_digits ds all;
      fraction_is = p.fraction_is;
      exponent_is = e.exponent_is;
      whole = refl;
      tail = ap tail_len behind ∙ tail ∙ sym (length-append p.f e.x);
    }

pub cut_number : (b : Bytes) → CutNumber b (prefix_len is_digit b)
cut_number b = from_digits b (prefix_len is_digit b) (run_cuts is_digit b)
