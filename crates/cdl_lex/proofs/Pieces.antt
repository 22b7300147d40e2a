-- The gap or the token with which some bytes begin.
use Rattle.std.proofs.Common.{◌≡◌, inl, inr, ℕ, suc, ◌+◌, ◌<◌, ◌≤◌, Bool, true, false, ◌||◌, ◌==◌, [], ◌∷◌, ◌++◌, length, take, drop, get_or, Option, Some, None, refl, sym, ap, ◌∙◌, subst, arith, if◌then◌else◌, append_assoc, append-nil, length-append}
use Rattle.std.proofs.lemmas.Bool.{eqb-false}
use Rattle.std.proofs.lemmas.Bool.Decides.{nat_tests}
use Rattle.std.proofs.lemmas.List.{get_or_append_left}
use Rattle.std.proofs.Math.Seq.{take-append_seam}
use Rattle.std.specs.List.{list_all, prefix_len}
use Rattle.cdl_source.specs.Identifiers.{is_digit, is_initial, is_word_byte}
use Rattle.cdl_source.specs.declared.place.TokenSort.{TokenSort}
use Rattle.cdl_source.specs.declared.place.TokenSort.TheVariants.{Integer, Real, Str, Symbol}
use Rattle.cdl_source.proofs.Options.{not_zero}
use Rattle.cdl_decimal.specs.Spells.{AllDigits, IsFraction, IsExponent}
use Rattle.cdl_lex.specs.Spellings.{Bytes, is_blank, symbols, is_symbol, is_pair, Spelling, integer, real, string, symbol, pair}
use Rattle.cdl_lex.specs.Splits.{IsLongest, StandsApart, IsToken, is_inner, IsGap, blank, line, block, NothingBegins}
use Rattle.cdl_lex.specs.Steps.{word_sort, number_sort, tail_len, inside_len, block_len, IsSign, BeginsWith, with_gap, with_token}
use Rattle.cdl_lex.proofs.Runs.{byte_behind, Cut, cut, run_cuts}
use Rattle.cdl_lex.proofs.Spelled.{IsPlain, IsNumber, word_spelling, Quote, Sign, head, Fits, head_letter, head_numeral, head_sign, fits, not_empty}
use Rattle.cdl_lex.proofs.Closed.{inside_most, closes, block_most, closes_block}
use Rattle.cdl_lex.proofs.Numbers.{number_len, number_most, cut_number}

apart : (c : ℕ) (s b : Bytes) → (c == 47) ≡ false → StandsApart (c ∷ s) b
apart c s b f e d r g = let same : c ≡ 47 = cc in absurd (eqb-false c 47 f same)

-- ---- words

initial_no_slash : (c : ℕ) → is_initial c ≡ true → (c == 47) ≡ false
initial_no_slash c e = grind (arith, nat_tests)

word_longest : (c : ℕ) (s b : Bytes) → is_initial c ≡ true → ((x : ℕ) (r : Bytes) → b ≡ x ∷ r → is_word_byte x ≡ false) → IsLongest (c ∷ s) b
word_longest c s b i stop x m r k e y =
    let all : list_all is_word_byte (s ++ x ∷ m) ≡ true = subst (λ z. Fits z c (s ++ x ∷ m)) (head_letter c i) (fits y c (s ++ x ∷ m) refl) in
    let never : true ≡ false = sym (byte_behind is_word_byte s m x all) ∙ stop x (m ++ r) e in cc

word_cut : (c : ℕ) (b : Bytes) (n : ℕ) → is_initial c ≡ true → Cut is_word_byte b n → BeginsWith (c ∷ b) (Some (word_sort (take (suc n) (c ∷ b)))) (suc n)
word_cut c _ _ i (cut s b all stop) =
    subst (λ z. BeginsWith (c ∷ (s ++ b)) (Some (word_sort (c ∷ z))) (suc (length s))) (sym (take-append_seam s b))
    (with_token (c ∷ s) b (record { spelling = word_spelling c s i all; longest = word_longest c s b i stop; apart = apart c s b (initial_no_slash c i) }))

pub word_begins : (b : Bytes) (n : ℕ) → 0 < length b → is_initial (get_or b 0 0) ≡ true → n ≡ 1 + prefix_len is_word_byte (drop 1 b) → BeginsWith b (Some (word_sort (take n b))) n
word_begins [] n some i e = let never : ⊥ = omega arith in absurd never
word_begins (c ∷ b) n some i e =
    let size : suc (prefix_len is_word_byte b) ≡ n = omega arith in
    subst (λ z. BeginsWith (c ∷ b) (Some (word_sort (take z (c ∷ b)))) z) size (word_cut c b (prefix_len is_word_byte b) i (run_cuts is_word_byte b))

-- ---- numbers

number_spelling : (ds f x : Bytes) {fs xs : Bytes} {m : Bool} → 0 < length ds → AllDigits ds → IsFraction f fs → IsExponent x m xs
    → Spelling (ds ++ (f ++ x)) (number_sort (length (f ++ x)))
number_spelling ds f x some all p q = go (f ++ x) refl
  where
    go : (t : Bytes) → f ++ x ≡ t → Spelling (ds ++ (f ++ x)) (number_sort (length t))
    go [] e = subst (λ z. Spelling z Integer) (sym (append-nil ds) ∙ ap (λ z. ds ++ z) (sym e)) (integer ds some all)
    go (c ∷ cs) e =
        let more : 0 < length (c ∷ cs) = omega arith in
        subst (Spelling (ds ++ (f ++ x))) (ap (λ q. if q then Integer else Real) (sym (not_zero (length (c ∷ cs)) more)))
        (real ds f x some all p q (subst (λ z. 0 < length z) (sym e) more))

digit_no_slash : (c : ℕ) → is_digit c ≡ true → (c == 47) ≡ false
digit_no_slash c e = grind (arith, nat_tests)

number_longest : (d : ℕ) (w b : Bytes) → is_digit d ≡ true → number_len (d ∷ (w ++ b)) ≡ length (d ∷ w) → IsLongest (d ∷ w) b
number_longest d w b h size x m r k e y =
    let n : IsNumber (d ∷ (w ++ x ∷ m)) = subst (λ z. Fits z d (w ++ x ∷ m)) (head_numeral d h) (fits y d (w ++ x ∷ m) refl) in
    let most : length (d ∷ (w ++ x ∷ m)) ≤ number_len (d ∷ ((w ++ x ∷ m) ++ r)) = number_most (d ∷ (w ++ x ∷ m)) r n in
    let same : (w ++ x ∷ m) ++ r ≡ w ++ b = append_assoc w (x ∷ m) r ∙ ap (λ z. w ++ z) (sym e) in
    let limit : number_len (d ∷ ((w ++ x ∷ m) ++ r)) ≡ length (d ∷ w) = ap (λ z. number_len (d ∷ z)) same ∙ size in
    let more : length (w ++ x ∷ m) ≡ length w + length (x ∷ m) = length-append w (x ∷ m) in
    let never : ⊥ = omega arith in never

number_token : (w b : Bytes) {k : TokenSort} → 0 < length w → is_digit (get_or w 0 0) ≡ true → Spelling w k → number_len (w ++ b) ≡ length w → BeginsWith (w ++ b) (Some k) (length w)
number_token [] b some h x size = let never : ⊥ = omega arith in absurd never
number_token (d ∷ w) b some h x size =
    with_token (d ∷ w) b (record { spelling = x; longest = number_longest d w b h size; apart = apart d w b (digit_no_slash d h) })

run_some : (p : ℕ → Bool) (b : Bytes) → 0 < length b → p (get_or b 0 0) ≡ true → 0 < prefix_len p b
run_some p [] some e = let never : ⊥ = omega arith in absurd never
run_some p (c ∷ b) some e =
    let one : prefix_len p (c ∷ b) ≡ 1 + prefix_len p b = ap (λ q. if q then 1 + prefix_len p b else 0) e in omega arith

pub number_begins : (b : Bytes) (n t : ℕ) → 0 < length b → is_digit (get_or b 0 0) ≡ true → n ≡ prefix_len is_digit b → t ≡ tail_len (drop n b) → BeginsWith b (Some (number_sort t)) (n + t)
number_begins b n t some h whole tail =
    let k = cut_number b in
    let w : Bytes = k.ds ++ (k.f ++ k.x) in
    let ahead : prefix_len is_digit b ≡ length k.ds = k.whole in
    let behind : tail_len (drop (prefix_len is_digit b) b) ≡ length (k.f ++ k.x) = k.tail in
    let tail_is : t ≡ length (k.f ++ k.x) = tail ∙ ap (λ z. tail_len (drop z b)) whole ∙ behind in
    let more : 0 < prefix_len is_digit b = run_some is_digit b some h in
    let digits : 0 < length k.ds = omega arith in
    let both : length w ≡ length k.ds + length (k.f ++ k.x) = length-append k.ds (k.f ++ k.x) in
    let size : length w ≡ n + t = omega arith in
    let len : number_len b ≡ length w = omega arith in
    let some_w : 0 < length w = omega arith in
    let first : get_or w 0 0 ≡ get_or b 0 0 = sym (get_or_append_left w k.r 0 0 some_w) ∙ ap (λ z. get_or z 0 0) (sym k.is) in
    let spelled : Spelling w (number_sort (length (k.f ++ k.x))) = number_spelling k.ds k.f k.x digits k.digits k.fraction_is k.exponent_is in
    let found : BeginsWith (w ++ k.r) (Some (number_sort (length (k.f ++ k.x)))) (length w) =
    number_token w k.r some_w (ap is_digit first ∙ h) spelled (ap number_len (sym k.is) ∙ len) in
    subst (λ z. BeginsWith b (Some (number_sort t)) z) size (subst (λ z. BeginsWith b (Some (number_sort z)) (length w)) (sym tail_is) (subst (λ z. BeginsWith z (Some (number_sort (length (k.f ++ k.x)))) (length w)) (sym k.is) found))

-- ---- strings

some_of : ℕ → Option ℕ
some_of n = Some n

string_longest : (u b : Bytes) → ((r : Bytes) → inside_len false (u ++ 34 ∷ r) ≡ Some (length u + 1)) → IsLongest (34 ∷ (u ++ 34 ∷ [])) b
string_longest u b most x m r k e y =
    let s : Fits Quote 34 ((u ++ 34 ∷ []) ++ x ∷ m) = fits y 34 ((u ++ 34 ∷ []) ++ x ∷ m) refl in
    let left : (u ++ 34 ∷ []) ++ x ∷ m ≡ u ++ 34 ∷ x ∷ m = append_assoc u (34 ∷ []) (x ∷ m) in
    let one : Some (length u + 1) ≡ inside_len false ((u ++ 34 ∷ []) ++ x ∷ m) = sym (ap (inside_len false) left ∙ most (x ∷ m)) in
    let two : inside_len false ((u ++ 34 ∷ []) ++ x ∷ m) ≡ Some (length s.0 + 1) = ap (inside_len false) s.2 ∙ inside_most s.1 [] in
    let same : length u + 1 ≡ length s.0 + 1 = same_size _ _ (one ∙ two) in
    let first : length (u ++ 34 ∷ x ∷ m) ≡ length u + length (34 ∷ x ∷ m) = length-append u (34 ∷ x ∷ m) in
    let second : length (s.0 ++ 34 ∷ []) ≡ length s.0 + 1 = length-append s.0 (34 ∷ []) in
    let whole : length (u ++ 34 ∷ x ∷ m) ≡ length (s.0 ++ 34 ∷ []) = ap length (sym left ∙ s.2) in
    let never : ⊥ = omega arith in never
  where
    same_size : (a c : ℕ) → Some a ≡ Some c → a ≡ c
    same_size a c f = cc

pub string_begins : (b : Bytes) (n : ℕ) → 0 < length b → get_or b 0 0 ≡ 34 → inside_len false (drop 1 b) ≡ Some n → BeginsWith b (Some Str) (1 + n)
string_begins [] n some q e = let never : ⊥ = omega arith in absurd never
string_begins (c ∷ b) n some q e =
    let k = closes false b n e in
    let shift : (k.u ++ 34 ∷ []) ++ k.r ≡ k.u ++ 34 ∷ k.r = append_assoc k.u (34 ∷ []) k.r in
    let whole : 34 ∷ ((k.u ++ 34 ∷ []) ++ k.r) ≡ c ∷ b = ap (λ z. 34 ∷ z) (shift ∙ sym k.is) ∙ ap (λ z. z ∷ b) (sym q) in
    let both : length (k.u ++ 34 ∷ []) ≡ length k.u + 1 = length-append k.u (34 ∷ []) in
    let last : n ≡ length k.u + 1 = k.size in
    let size : length (34 ∷ (k.u ++ 34 ∷ [])) ≡ 1 + n = omega arith in
    subst (BeginsWith (c ∷ b) (Some Str)) size (subst (λ z. BeginsWith z (Some Str) (length (34 ∷ (k.u ++ 34 ∷ [])))) whole
    (with_token (34 ∷ (k.u ++ 34 ∷ [])) k.r (record { spelling = string k.u k.inside; longest = string_longest k.u k.r (λ r. inside_most k.inside r); apart = apart 34 (k.u ++ 34 ∷ []) k.r refl })))

-- ---- nothing

first_same : (c d : ℕ) (s b : Bytes) → c ∷ b ≡ d ∷ s → d ≡ c
first_same c d s b e = cc

-- a byte that is neither a blank nor a slash, with which no spelling begins
nothing_by : (c : ℕ) (b : Bytes) → is_blank c ≡ false → (c == 47) ≡ false → ((s r : Bytes) (k : TokenSort) → c ∷ b ≡ c ∷ (s ++ r) → Spelling (c ∷ s) k → ⊥) → NothingBegins (c ∷ b)
nothing_by c b no_blank no_slash none = record { more = λ e. cc; no_gap = λ s r e g. gap_no s r e g; no_token = λ s r k e t. token_no s r k e t.spelling }
  where
    gap_no : (s r : Bytes) → c ∷ b ≡ s ++ r → IsGap s r → ⊥
    gap_no _ _ e (blank d r f) = let never : true ≡ false = sym f ∙ ap is_blank (first_same c d r b e) ∙ no_blank in cc
    gap_no _ _ e (line s r all ends) = eqb-false c 47 no_slash (sym (first_same c 47 _ b e))
    gap_no _ _ e (block s r h) = eqb-false c 47 no_slash (sym (first_same c 47 _ b e))

    token_no : (s r : Bytes) (k : TokenSort) → c ∷ b ≡ s ++ r → Spelling s k → ⊥
    token_no [] r k e x = not_empty x refl
    token_no (d ∷ s) r k e x =
        let same = first_same c d (s ++ r) b e in
        none s r k (e ∙ ap (λ z. z ∷ (s ++ r)) same) (subst (λ z. Spelling (z ∷ s) k) same x)

tail_of : (c : ℕ) (b s : Bytes) → c ∷ b ≡ c ∷ s → b ≡ s
tail_of c b s e = cc

pub no_string : (b : Bytes) → 0 < length b → get_or b 0 0 ≡ 34 → inside_len false (drop 1 b) ≡ None → NothingBegins b
no_string [] some q e = let never : ⊥ = omega arith in absurd never
no_string (c ∷ b) some q e = subst (λ z. NothingBegins (z ∷ b)) (sym q) (nothing_by 34 b refl refl none)
  where
    none : (s r : Bytes) (k : TokenSort) → 34 ∷ b ≡ 34 ∷ (s ++ r) → Spelling (34 ∷ s) k → ⊥
    none s r k f x =
        let h : Fits Quote 34 s = fits x 34 s refl in
        let whole : b ≡ h.0 ++ 34 ∷ r = tail_of 34 b (s ++ r) f ∙ ap (λ z. z ++ r) h.2 ∙ append_assoc h.0 (34 ∷ []) r in
        let never : None ≡ Some (length h.0 + 1) = sym e ∙ ap (inside_len false) whole ∙ inside_most h.1 r in cc

-- ---- signs

as_plain : (c : ℕ) → IsSign c → IsPlain c
as_plain c h = record { no_blank = h.no_blank; no_initial = h.no_initial; no_digit = h.no_digit; no_quote = h.no_quote }

pub no_sign : (b : Bytes) → 0 < length b → IsSign (get_or b 0 0) → is_symbol (get_or b 0 0) ≡ false → NothingBegins b
no_sign [] some h f = let never : ⊥ = omega arith in absurd never
no_sign (c ∷ b) some h f = nothing_by c b h.no_blank h.no_slash none
  where
    none : (s r : Bytes) (k : TokenSort) → c ∷ b ≡ c ∷ (s ++ r) → Spelling (c ∷ s) k → ⊥
    none s r k e x =
        let p : Fits Sign c s = subst (λ z. Fits z c s) (head_sign c (as_plain c h)) (fits x c s refl) in
        let never : true ≡ false = sym p.0 ∙ f in cc

sign_longest : (c : ℕ) (b : Bytes) → head c ≡ Sign → ((d : ℕ) (r : Bytes) → b ≡ d ∷ r → is_pair c d ≡ false) → IsLongest (c ∷ []) b
sign_longest c b h no_pair x m r k e y =
    let p : Fits Sign c (x ∷ m) = subst (λ z. Fits z c (x ∷ m)) h (fits y c (x ∷ m) refl) in
    elim p.1 [
      | inl f ↦ cc
      | inr q ↦
          let same : x ≡ q.0 = head_same q.0 q.1 in
          let never : true ≡ false = sym q.2 ∙ ap (is_pair c) (sym same) ∙ no_pair x (m ++ r) e in cc
    ]
  where
    head_same : (d : ℕ) → x ∷ m ≡ d ∷ [] → x ≡ d
    head_same d f = cc

one_sign : (c : ℕ) (b : Bytes) → head c ≡ Sign → is_symbol c ≡ true → StandsApart (c ∷ []) b → ((d : ℕ) (r : Bytes) → b ≡ d ∷ r → is_pair c d ≡ false) → BeginsWith (c ∷ b) (Some Symbol) 1
one_sign c b h f a no_pair = with_token (c ∷ []) b (record { spelling = symbol c f; longest = sign_longest c b h no_pair; apart = a })

pair_longest : (c d : ℕ) (b : Bytes) → head c ≡ Sign → IsLongest (c ∷ d ∷ []) b
pair_longest c d b h x m r k e y =
    let p : Fits Sign c (d ∷ x ∷ m) = subst (λ z. Fits z c (d ∷ x ∷ m)) h (fits y c (d ∷ x ∷ m) refl) in
    elim p.1 [ inl f ↦ cc | inr q ↦ two_one q.0 q.1 ]
  where
    two_one : (z : ℕ) → d ∷ x ∷ m ≡ z ∷ [] → ⊥
    two_one z f = cc

pub sign_begins : (b : Bytes) → 0 < length b → IsSign (get_or b 0 0) → is_symbol (get_or b 0 0) ≡ true → (1 < length b → is_pair (get_or b 0 0) (get_or b 1 0) ≡ false) → BeginsWith b (Some Symbol) 1
sign_begins [] some h f no_pair = let never : ⊥ = omega arith in absurd never
sign_begins (c ∷ []) some h f no_pair = one_sign c [] (head_sign c (as_plain c h)) f (apart c [] [] h.no_slash) (λ d r e. cc)
sign_begins (c ∷ d ∷ b) some h f no_pair =
    let more : 1 < length (c ∷ d ∷ b) = omega arith in
    one_sign c (d ∷ b) (head_sign c (as_plain c h)) f (apart c [] (d ∷ b) h.no_slash)
    (λ x r e. let same : d ≡ x = cc in subst (λ z. is_pair c z ≡ false) same (no_pair more))

pub pair_begins : (b : Bytes) → 1 < length b → IsSign (get_or b 0 0) → is_pair (get_or b 0 0) (get_or b 1 0) ≡ true → BeginsWith b (Some Symbol) 2
pair_begins [] more h f = let never : ⊥ = omega arith in absurd never
pair_begins (c ∷ []) more h f = let never : ⊥ = omega arith in absurd never
pair_begins (c ∷ d ∷ b) more h f =
    with_token (c ∷ d ∷ []) b (record { spelling = pair c d f; longest = pair_longest c d b (head_sign c (as_plain c h)); apart = apart c (d ∷ []) b h.no_slash })

-- ---- slashes

pub blank_begins : (b : Bytes) → 0 < length b → is_blank (get_or b 0 0) ≡ true → BeginsWith b None 1
blank_begins [] some f = let never : ⊥ = omega arith in absurd never
blank_begins (c ∷ b) some f = with_gap (c ∷ []) b (blank c b f)

line_cut : (b : Bytes) (n : ℕ) → Cut is_inner b n → BeginsWith (47 ∷ 47 ∷ b) None (2 + n)
line_cut _ _ (cut s b all stop) =
    let size : length (47 ∷ 47 ∷ s) ≡ 2 + length s = omega arith in
    subst (BeginsWith (47 ∷ 47 ∷ (s ++ b)) None) size (with_gap (47 ∷ 47 ∷ s) b (line s b all stop))

pub two_bytes : (b : Bytes) → 1 < length b → b ≡ get_or b 0 0 ∷ get_or b 1 0 ∷ drop 2 b
two_bytes [] more = let never : ⊥ = omega arith in absurd never
two_bytes (c ∷ []) more = let never : ⊥ = omega arith in absurd never
two_bytes (c ∷ d ∷ b) more = refl

pub line_begins : (b : Bytes) → 1 < length b → get_or b 0 0 ≡ 47 → get_or b 1 0 ≡ 47 → BeginsWith b None (2 + prefix_len is_inner (drop 2 b))
line_begins b more e f =
    let whole : 47 ∷ 47 ∷ drop 2 b ≡ b = ap (λ z. 47 ∷ z ∷ drop 2 b) (sym f) ∙ ap (λ z. z ∷ get_or b 1 0 ∷ drop 2 b) (sym e) ∙ sym (two_bytes b more) in
    subst (λ z. BeginsWith z None (2 + prefix_len is_inner (drop 2 b))) whole (line_cut (drop 2 b) (prefix_len is_inner (drop 2 b)) (run_cuts is_inner (drop 2 b)))

block_at : (b : Bytes) (n : ℕ) → block_len b ≡ Some n → BeginsWith (47 ∷ 42 ∷ b) None (2 + n)
block_at b n e =
    let k = closes_block b n e in
    let shift : (k.s ++ 42 ∷ 47 ∷ []) ++ k.r ≡ k.s ++ 42 ∷ 47 ∷ k.r = append_assoc k.s (42 ∷ 47 ∷ []) k.r in
    let whole : 47 ∷ 42 ∷ ((k.s ++ 42 ∷ 47 ∷ []) ++ k.r) ≡ 47 ∷ 42 ∷ b = ap (λ z. 47 ∷ 42 ∷ z) (shift ∙ sym k.is) in
    let both : length (k.s ++ 42 ∷ 47 ∷ []) ≡ length k.s + 2 = length-append k.s (42 ∷ 47 ∷ []) in
    let last : n ≡ length k.s + 2 = k.size in
    let size : length (47 ∷ 42 ∷ (k.s ++ 42 ∷ 47 ∷ [])) ≡ 2 + n = omega arith in
    subst (BeginsWith (47 ∷ 42 ∷ b) None) size (subst (λ z. BeginsWith z None (length (47 ∷ 42 ∷ (k.s ++ 42 ∷ 47 ∷ [])))) whole
    (with_gap (47 ∷ 42 ∷ (k.s ++ 42 ∷ 47 ∷ [])) k.r (block k.s k.r k.inside)))

pub block_begins : (b : Bytes) (n : ℕ) → 1 < length b → get_or b 0 0 ≡ 47 → get_or b 1 0 ≡ 42 → block_len (drop 2 b) ≡ Some n → BeginsWith b None (2 + n)
block_begins b n more e f h =
    let whole : 47 ∷ 42 ∷ drop 2 b ≡ b = ap (λ z. 47 ∷ z ∷ drop 2 b) (sym f) ∙ ap (λ z. z ∷ get_or b 1 0 ∷ drop 2 b) (sym e) ∙ sym (two_bytes b more) in
    subst (λ z. BeginsWith z None (2 + n)) whole (block_at (drop 2 b) n h)

-- what a spelling that begins with a slash is
pub slash_alone : (s : Bytes) (k : TokenSort) → Spelling (47 ∷ s) k → s ≡ []
slash_alone s k x =
    let p : Fits Sign 47 s = fits x 47 s refl in
    elim p.1 [ inl e ↦ e | inr q ↦ let never : false ≡ true = q.2 in cc ]

abbrev second : Bytes → ℕ
second [] = 0
second (c ∷ []) = 0
second (c ∷ d ∷ b) = d

open_block : (b : Bytes) → block_len b ≡ None → NothingBegins (47 ∷ 42 ∷ b)
open_block b e = record { more = λ f. cc; no_gap = λ s r f g. gap_no s r f g; no_token = λ s r k f t. token_no s r k f t }
  where
    gap_no : (s r : Bytes) → 47 ∷ 42 ∷ b ≡ s ++ r → IsGap s r → ⊥
    gap_no _ _ f (blank d r h) = let never : true ≡ false = sym h ∙ ap is_blank (first_same 47 d r (42 ∷ b) f) in cc
    gap_no _ _ f (line s r all ends) = eqb-false 42 47 refl (ap second f)
    gap_no _ _ f (block s r h) =
        let rest : b ≡ (s ++ 42 ∷ 47 ∷ []) ++ r = tail_of 42 b _ (tail_of 47 (42 ∷ b) _ f) in
        let never : None ≡ Some (length s + 2) = sym e ∙ ap block_len (rest ∙ append_assoc s (42 ∷ 47 ∷ []) r) ∙ block_most s r h in cc

    token_no : (s r : Bytes) (k : TokenSort) → 47 ∷ 42 ∷ b ≡ s ++ r → IsToken s k r → ⊥
    token_no [] r k f t = not_empty t.spelling refl
    token_no (d ∷ s) r k f t =
        let same = first_same 47 d (s ++ r) (42 ∷ b) f in
        let alone : s ≡ [] = slash_alone s k (subst (λ z. Spelling (z ∷ s) k) same t.spelling) in
        let whole : d ∷ s ≡ 47 ∷ [] = ap (λ z. z ∷ s) same ∙ ap (λ z. 47 ∷ z) alone in
        let behind : 42 ∷ b ≡ r = tail_of 47 (42 ∷ b) r (f ∙ ap (λ z. z ++ r) whole) in
        let never : true ≡ false = t.apart whole 42 b (sym behind) in cc

pub no_block : (b : Bytes) → 1 < length b → get_or b 0 0 ≡ 47 → get_or b 1 0 ≡ 42 → block_len (drop 2 b) ≡ None → NothingBegins b
no_block b more e f h =
    let whole : 47 ∷ 42 ∷ drop 2 b ≡ b = ap (λ z. 47 ∷ z ∷ drop 2 b) (sym f) ∙ ap (λ z. z ∷ get_or b 1 0 ∷ drop 2 b) (sym e) ∙ sym (two_bytes b more) in
    subst NothingBegins whole (open_block (drop 2 b) h)

slash_is_symbol : is_symbol 47 ≡ true
unfolding is_symbol symbols
slash_is_symbol = refl

other_than : (d : ℕ) → (d ≡ 47 → ⊥) → (d ≡ 42 → ⊥) → (d == 47 || d == 42) ≡ false
other_than d e f = grind (arith, nat_tests)

pub slash_begins : (b : Bytes) → 0 < length b → get_or b 0 0 ≡ 47 → (1 < length b → (get_or b 1 0 ≡ 47 → ⊥) × (get_or b 1 0 ≡ 42 → ⊥)) → BeginsWith b (Some Symbol) 1
slash_begins [] some e f = let never : ⊥ = omega arith in absurd never
slash_begins (c ∷ b) some e f = subst (λ z. BeginsWith (z ∷ b) (Some Symbol) 1) (sym e) (one_sign 47 b refl slash_is_symbol (alone b f) (λ d r g. refl))
  where
    alone : (b : Bytes) → (1 < length (c ∷ b) → (get_or (c ∷ b) 1 0 ≡ 47 → ⊥) × (get_or (c ∷ b) 1 0 ≡ 42 → ⊥)) → StandsApart (47 ∷ []) b
    alone [] h e d r g = cc
    alone (x ∷ b) h e d r g =
        let more : 1 < length (c ∷ x ∷ b) = omega arith in
        let same : x ≡ d = cc in
        subst (λ z. (z == 47 || z == 42) ≡ false) same (other_than x (h more).0 (h more).1)

-- ---- sizes

gap_some : {s b : Bytes} → IsGap s b → 0 < length s
gap_some (blank c b f) = omega arith
gap_some (line s b all ends) = omega arith
gap_some (block s b h) = omega arith

some_bytes : (s : Bytes) → (s ≡ [] → ⊥) → 0 < length s
some_bytes [] h = absurd (h refl)
some_bytes (c ∷ s) h = omega arith

pub piece_some : {b : Bytes} {k : Option TokenSort} {n : ℕ} → BeginsWith b k n → 0 < n
piece_some (with_gap s b g) = gap_some g
piece_some (with_token s b t) = some_bytes s (not_empty t.spelling)

pub piece_within : {b : Bytes} {k : Option TokenSort} {n : ℕ} → BeginsWith b k n → n ≤ length b
piece_within (with_gap s b g) = let both = length-append s b in omega arith
piece_within (with_token s b t) = let both = length-append s b in omega arith
