-- What a spelling looks like, by its first byte.
use Rattle.std.proofs.Common.{◌≡◌, ◌⊎◌, ℕ, ◌<◌, Bool, true, false, ◌&&◌, ◌||◌, ◌==◌, not, List, [], ◌∷◌, ◌++◌, length, refl, sym, ap, ◌∙◌, subst, arith, if◌then◌else◌, inl, inr}
use Rattle.std.proofs.lemmas.Bool.{eqb-true, and_parts, not-true}
use Rattle.std.proofs.lemmas.Bool.Decides.{nat_tests}
use Rattle.std.proofs.lemmas.Slice.Eq.{bytes_eq-Decides}
use Rattle.std.specs.List.{list_all, list_any}
use Rattle.std.specs.Str.{bytes_eq}
use Rattle.cdl_source.specs.Identifiers.{is_digit, is_initial, is_word_byte, keywords, is_keyword}
use Rattle.cdl_source.specs.declared.place.TokenSort.{TokenSort}
use Rattle.cdl_source.specs.declared.place.TokenSort.TheVariants.{Identifier, Integer, Real, Str, Keyword, Symbol}
use Rattle.cdl_decimal.specs.Spells.{IsDigit, AllDigits, IsFraction, no_point, point, IsExponent, no_exponent, exponent}
use Rattle.cdl_lex.specs.Spellings.{Bytes, is_blank, symbols, is_symbol, is_pair, IsInside, Spelling, identifier, keyword, integer, real, string, symbol, pair}
use Rattle.cdl_lex.specs.Steps.{word_sort}

-- ---- digits

pub digit_is : (c : ℕ) → IsDigit c → is_digit c ≡ true
digit_is c d = let low = d.0 in let high = d.1 in grind (arith, nat_tests)

pub is_a_digit : (c : ℕ) → is_digit c ≡ true → IsDigit c
is_a_digit c e = (grind (arith, nat_tests), grind (arith, nat_tests))

pub digits_pass : (ds : Bytes) → AllDigits ds → list_all is_digit ds ≡ true
digits_pass [] h = refl
digits_pass (d ∷ ds) h = ap (λ z. z && list_all is_digit ds) (digit_is d h.0) ∙ digits_pass ds h.1

pub passing_digits : (ds : Bytes) → list_all is_digit ds ≡ true → AllDigits ds
passing_digits [] e = tt
passing_digits (d ∷ ds) e = let both = and_parts (is_digit d) (list_all is_digit ds) e in (is_a_digit d both.0, passing_digits ds both.1)

-- ---- keywords look as identifiers do

abbrev is_name : Bytes → Bool
is_name [] = false
is_name (c ∷ cs) = is_initial c && list_all is_word_byte cs

keywords_are_names : list_all is_name keywords ≡ true
unfolding keywords
keywords_are_names = refl

abbrev is_among : List Bytes → Bytes → Bool
is_among words s = list_any (λ k. bytes_eq k s) words

among_names : (words : List Bytes) (s : Bytes) → list_all is_name words ≡ true → is_among words s ≡ true → is_name s ≡ true
among_names [] s all found = cc
among_names (w ∷ ws) s all found =
    let both = and_parts (is_name w) (list_all is_name ws) all in
    go (bytes_eq w s) refl both.0 (λ f. among_names ws s both.1 f) found
  where
    go : (q : Bool) → bytes_eq w s ≡ q → is_name w ≡ true → (is_among ws s ≡ true → is_name s ≡ true) → (q || is_among ws s) ≡ true → is_name s ≡ true
    go true e here later f = subst (λ z. is_name z ≡ true) ((bytes_eq-Decides w s).0 e) here
    go false e here later f = later f

keyword_is_name : (s : Bytes) → is_keyword s ≡ true → is_name s ≡ true
unfolding is_keyword
keyword_is_name s e = among_names keywords s keywords_are_names e

-- ---- symbols are neither blanks nor begin words, numbers or strings

abbrev pub is_plain : ℕ → Bool
is_plain c = (not (is_blank c) && not (is_initial c)) && (not (is_digit c) && not (c == 34))

symbols_are_plain : list_all is_plain symbols ≡ true
unfolding symbols
symbols_are_plain = refl

abbrev is_one_of : Bytes → ℕ → Bool
is_one_of ks c = list_any (λ k. k == c) ks

among_plain : (ks : Bytes) (c : ℕ) → list_all is_plain ks ≡ true → is_one_of ks c ≡ true → is_plain c ≡ true
among_plain [] c all found = cc
among_plain (k ∷ ks) c all found =
    let both = and_parts (is_plain k) (list_all is_plain ks) all in
    go (k == c) refl both.0 (λ f. among_plain ks c both.1 f) found
  where
    go : (q : Bool) → (k == c) ≡ q → is_plain k ≡ true → (is_one_of ks c ≡ true → is_plain c ≡ true) → (q || is_one_of ks c) ≡ true → is_plain c ≡ true
    go true e here later f = subst (λ z. is_plain z ≡ true) (eqb-true k c e) here
    go false e here later f = later f

pub symbol_is_plain : (c : ℕ) → is_symbol c ≡ true → is_plain c ≡ true
unfolding is_symbol
symbol_is_plain c e = among_plain symbols c symbols_are_plain e

-- what is plain
pub record IsPlain (c : ℕ) : Type 0 where
  pub no_blank : is_blank c ≡ false
  pub no_initial : is_initial c ≡ false
  pub no_digit : is_digit c ≡ false
  pub no_quote : (c == 34) ≡ false

pub plain_is : (c : ℕ) → is_plain c ≡ true → IsPlain c
plain_is c e =
    let both = and_parts (not (is_blank c) && not (is_initial c)) (not (is_digit c) && not (c == 34)) e in
    let left = and_parts (not (is_blank c)) (not (is_initial c)) both.0 in
    let right = and_parts (not (is_digit c)) (not (c == 34)) both.1 in
    record {
      no_blank = not-true _ left.0;
      no_initial = not-true _ left.1;
      no_digit = not-true _ right.0;
      no_quote = not-true _ right.1;
    }

pub first_of_pair : (c d : ℕ) → is_pair c d ≡ true → ((c ≡ 60) ⊎ (c ≡ 62)) ⊎ (c ≡ 61)
first_of_pair c d e = go (c == 60) (c == 62) (c == 61) refl refl refl e
  where
    go : (p q r : Bool) → (c == 60) ≡ p → (c == 62) ≡ q → (c == 61) ≡ r → (((p || q || r) && d == 61) || (p && d == 62)) ≡ true → ((c ≡ 60) ⊎ (c ≡ 62)) ⊎ (c ≡ 61)
    go true q r e f g h = inl (inl (eqb-true c 60 e))
    go false true r e f g h = inl (inr (eqb-true c 62 f))
    go false false true e f g h = inr (eqb-true c 61 g)
    go false false false e f g h = cc

pub pair_is_symbol : (c d : ℕ) → is_pair c d ≡ true → is_symbol c ≡ true
unfolding is_symbol symbols
pair_is_symbol c d e = elim (first_of_pair c d e) [
  | inl h ↦ elim h [ inl same ↦ ap (λ z. list_any (λ k. k == z) symbols) same | inr same ↦ ap (λ z. list_any (λ k. k == z) symbols) same ]
  | inr same ↦ ap (λ z. list_any (λ k. k == z) symbols) same
]

-- ---- the four shapes

-- digits, then perhaps a point and digits, then perhaps an exponent
pub record IsNumber (s : Bytes) : Type 0 where
  pub ds : Bytes
  pub f : Bytes
  pub x : Bytes
  pub fs : Bytes
  pub xs : Bytes
  pub m : Bool
  pub some : 0 < length ds
  pub digits : AllDigits ds
  pub fraction_is : IsFraction f fs
  pub exponent_is : IsExponent x m xs
  pub is : s ≡ ds ++ (f ++ x)

abbrev pub IsOneOrPair : ℕ → Bytes → Type 0
IsOneOrPair c cs = (cs ≡ []) ⊎ ((d : ℕ) × (cs ≡ d ∷ []) × (is_pair c d ≡ true))

pub data View : Bytes → TokenSort → Type 0 where
  a_word : (c : ℕ) (cs : Bytes) → is_initial c ≡ true → list_all is_word_byte cs ≡ true → View (c ∷ cs) (word_sort (c ∷ cs))
  a_number : (c : ℕ) (cs : Bytes) → is_digit c ≡ true → IsNumber (c ∷ cs) → View (c ∷ cs) (if list_all is_digit (c ∷ cs) then Integer else Real)
  a_string : (b : Bytes) → IsInside b → View (34 ∷ (b ++ 34 ∷ [])) Str
  a_sign : (c : ℕ) (cs : Bytes) → is_symbol c ≡ true → IsOneOrPair c cs → View (c ∷ cs) Symbol

keyword_view : (s : Bytes) → is_keyword s ≡ true → is_name s ≡ true → View s Keyword
keyword_view [] k n = cc
keyword_view (c ∷ cs) k n =
    let both = and_parts (is_initial c) (list_all is_word_byte cs) n in
    subst (View (c ∷ cs)) (ap (λ q. if q then Keyword else Identifier) k) (a_word c cs both.0 both.1)

integer_view : (ds : Bytes) → 0 < length ds → AllDigits ds → View ds Integer
integer_view [] some all = let never : ⊥ = omega arith in absurd never
integer_view (d ∷ ds) some all =
    subst (View (d ∷ ds)) (ap (λ q. if q then Integer else Real) (digits_pass (d ∷ ds) all))
    (a_number d ds (digit_is d all.0) (record {
      ds = d ∷ ds;
      f = [];
      x = [];
      fs = [];
      xs = [];
      m = false;
      some = some;
      digits = all;
      fraction_is = no_point;
      exponent_is = no_exponent;
      is = ap (λ z. d ∷ z) (sym (nil_behind ds));
    }))
  where
    nil_behind : (s : Bytes) → s ++ [] ≡ s
    nil_behind [] = refl
    nil_behind (c ∷ s) = ap (λ z. c ∷ z) (nil_behind s)

-- a point or an exponent is no digit
tail_fails : {f x fs xs : Bytes} {m : Bool} → IsFraction f fs → IsExponent x m xs → 0 < length (f ++ x) → list_all is_digit (f ++ x) ≡ false
tail_fails no_point no_exponent some = let never : ⊥ = omega arith in absurd never
tail_fails no_point (exponent e s ds m which sign more all) some =
    elim which [ inl same ↦ ap (λ z. is_digit z && list_all is_digit (s ++ ds)) same | inr same ↦ ap (λ z. is_digit z && list_all is_digit (s ++ ds)) same ]
tail_fails (point ds all) x some = refl

all_fail : (ds b : Bytes) → list_all is_digit b ≡ false → list_all is_digit (ds ++ b) ≡ false
all_fail [] b e = e
all_fail (d ∷ ds) b e = go (is_digit d) (all_fail ds b e)
  where
    go : (q : Bool) → list_all is_digit (ds ++ b) ≡ false → (q && list_all is_digit (ds ++ b)) ≡ false
    go true h = h
    go false h = refl

real_view : (ds f x : Bytes) {fs xs : Bytes} {m : Bool} → 0 < length ds → AllDigits ds → IsFraction f fs → IsExponent x m xs → 0 < length (f ++ x) → View (ds ++ (f ++ x)) Real
real_view [] f x some all p q more = let never : ⊥ = omega arith in absurd never
real_view (d ∷ ds) f x {fs} {xs} {m} some all p q more =
    subst (View (d ∷ (ds ++ (f ++ x)))) (ap (λ q. if q then Integer else Real) (all_fail (d ∷ ds) (f ++ x) (tail_fails p q more)))
    (a_number d (ds ++ (f ++ x)) (digit_is d all.0) (record {
      ds = d ∷ ds;
      f = f;
      x = x;
      fs = fs;
      xs = xs;
      m = m;
      some = some;
      digits = all;
      fraction_is = p;
      exponent_is = q;
      is = refl;
    }))

pub view : {s : Bytes} {k : TokenSort} → Spelling s k → View s k
view (identifier c cs i all plain) = subst (View (c ∷ cs)) (ap (λ q. if q then Keyword else Identifier) plain) (a_word c cs i all)
view (keyword s k) = keyword_view s k (keyword_is_name s k)
view (integer ds some all) = integer_view ds some all
view (real ds f x some all p q more) = real_view ds f x some all p q more
view (string b h) = a_string b h
view (symbol c f) = a_sign c [] f (inl refl)
view (pair c d f) = a_sign c (d ∷ []) (pair_is_symbol c d f) (inr (d, refl, f))

pub word_spelling : (c : ℕ) (cs : Bytes) → is_initial c ≡ true → list_all is_word_byte cs ≡ true → Spelling (c ∷ cs) (word_sort (c ∷ cs))
word_spelling c cs i all = go (is_keyword (c ∷ cs)) refl
  where
    go : (q : Bool) → is_keyword (c ∷ cs) ≡ q → Spelling (c ∷ cs) (if q then Keyword else Identifier)
    go true e = keyword (c ∷ cs) e
    go false e = identifier c cs i all e

-- ---- by the first byte

pub data Head : Type 0 where
  Letter : Head
  Numeral : Head
  Quote : Head
  Sign : Head

abbrev pub head : ℕ → Head
head c = if is_initial c then Letter else (if is_digit c then Numeral else (if c == 34 then Quote else Sign))

abbrev pub Fits : Head → ℕ → Bytes → Type 0
Fits Letter c cs = list_all is_word_byte cs ≡ true
Fits Numeral c cs = IsNumber (c ∷ cs)
Fits Quote c cs = (b : Bytes) × IsInside b × (cs ≡ b ++ 34 ∷ [])
Fits Sign c cs = (is_symbol c ≡ true) × IsOneOrPair c cs

pub head_letter : (c : ℕ) → is_initial c ≡ true → head c ≡ Letter
head_letter c i = ap (λ q. if q then Letter else (if is_digit c then Numeral else (if c == 34 then Quote else Sign))) i

digit_no_initial : (c : ℕ) → is_digit c ≡ true → is_initial c ≡ false
digit_no_initial c e = grind (arith, nat_tests)

pub head_numeral : (c : ℕ) → is_digit c ≡ true → head c ≡ Numeral
head_numeral c d =
    ap (λ q. if q then Letter else (if is_digit c then Numeral else (if c == 34 then Quote else Sign))) (digit_no_initial c d)
    ∙ ap (λ q. if q then Numeral else (if c == 34 then Quote else Sign)) d

pub head_sign_of : (c : ℕ) → is_initial c ≡ false → is_digit c ≡ false → (c == 34) ≡ false → head c ≡ Sign
head_sign_of c i d q =
    ap (λ q. if q then Letter else (if is_digit c then Numeral else (if c == 34 then Quote else Sign))) i
    ∙ ap (λ q. if q then Numeral else (if c == 34 then Quote else Sign)) d
    ∙ ap (λ q. if q then Quote else Sign) q

pub head_sign : (c : ℕ) → IsPlain c → head c ≡ Sign
head_sign c p = head_sign_of c p.no_initial p.no_digit p.no_quote

view_fits : {s : Bytes} {k : TokenSort} → View s k → (c : ℕ) (cs : Bytes) → s ≡ c ∷ cs → Fits (head c) c cs
view_fits (a_word d ds i all) c cs e =
    let same : d ≡ c = cc in let rest : ds ≡ cs = cc in
    subst (λ z. Fits (head z) z cs) same (subst (λ z. Fits z d cs) (sym (head_letter d i)) (subst (λ z. list_all is_word_byte z ≡ true) rest all))
view_fits (a_number d ds h n) c cs e =
    let same : d ≡ c = cc in let rest : ds ≡ cs = cc in
    subst (λ z. Fits (head z) z cs) same (subst (λ z. Fits z d cs) (sym (head_numeral d h)) (subst (λ z. IsNumber (d ∷ z)) rest n))
view_fits (a_string b h) c cs e =
    let same : 34 ≡ c = cc in let rest : b ++ 34 ∷ [] ≡ cs = cc in
    subst (λ z. Fits (head z) z cs) same (b, h, sym rest)
view_fits (a_sign d ds f one) c cs e =
    let same : d ≡ c = cc in let rest : ds ≡ cs = cc in
    subst (λ z. Fits (head z) z cs) same (subst (λ z. Fits z d cs) (sym (head_sign d (plain_is d (symbol_is_plain d f)))) (f, subst (IsOneOrPair d) rest one))

-- what a spelling that begins with this byte goes on with
pub fits : {s : Bytes} {k : TokenSort} → Spelling s k → (c : ℕ) (cs : Bytes) → s ≡ c ∷ cs → Fits (head c) c cs
fits x = view_fits (view x)

view_some : {s : Bytes} {k : TokenSort} → View s k → s ≡ [] → ⊥
view_some (a_word d ds i all) e = cc
view_some (a_number d ds h n) e = cc
view_some (a_string b h) e = cc
view_some (a_sign d ds f one) e = cc

pub not_empty : {s : Bytes} {k : TokenSort} → Spelling s k → s ≡ [] → ⊥
not_empty x = view_some (view x)

-- ---- one sort

abbrev sort_by : Head → Bytes → TokenSort
sort_by Letter s = word_sort s
sort_by Numeral s = if list_all is_digit s then Integer else Real
sort_by Quote s = Str
sort_by Sign s = Symbol

abbrev sort_of : Bytes → TokenSort
sort_of [] = Symbol
sort_of (c ∷ cs) = sort_by (head c) (c ∷ cs)

view_sort : {s : Bytes} {k : TokenSort} → View s k → k ≡ sort_of s
view_sort (a_word d ds i all) = ap (λ z. sort_by z (d ∷ ds)) (sym (head_letter d i))
view_sort (a_number d ds h n) = ap (λ z. sort_by z (d ∷ ds)) (sym (head_numeral d h))
view_sort (a_string b h) = refl
view_sort (a_sign d ds f one) = ap (λ z. sort_by z (d ∷ ds)) (sym (head_sign d (plain_is d (symbol_is_plain d f))))

pub one_sort : {s t : Bytes} {k j : TokenSort} → Spelling s k → Spelling t j → s ≡ t → k ≡ j
one_sort x y e = view_sort (view x) ∙ ap sort_of e ∙ sym (view_sort (view y))
