-- What the literals of a text mean is as a text may have it: strings are UTF-8, and numbers are not negative.
use Rattle.std.proofs.Common.{◌≡◌, ◌⊎◌, ℕ, zero, suc, ◌*◌, ◌/◌, ◌^◌, ◌≤◌, ◌<◌, ℤ, pos, ◌*ℤ◌, ◌+ℤ◌, Bool, true, false, ◌&&◌, ◌||◌, ◌==◌, nat_le, cond, if◌then◌else◌, List, [], ◌∷◌, ◌++◌, length, slice_index, get_or, Option, Some, None, refl, sym, ap, ◌∙◌, subst, arith, append-nil, inl, inr}
use Rattle.cdl_source.specs.declared.limits.TheConstants.{LARGEST_INTEGER}
use Rattle.std.proofs.Math.Utf8.{encode, encodes, scalar, scalars}
use Rattle.std.proofs.lemmas.Bool.{eqb-true, cases_lt, and_parts}
use Rattle.std.proofs.lemmas.Bool.Decides.{nat_tests}
use Rattle.std.proofs.lemmas.Str.{encode_ascii, IsUtf8-nil, IsUtf8-from_ascii, length-encode, len_utf8_bounds, inside_one, IsUtf8-append, IsUtf8-encode, IsUtf8-past_char, IsUtf8-from_is_utf8, is_utf8-from_IsUtf8}
use Rattle.std.specs.Char.{is_ascii_digit, IsScalar}
use Rattle.std.specs.List.{list_all}
use Rattle.std.specs.Str.{IsUtf8, is_utf8}
use Rattle.cdl_decimal.specs.Near.{near}
use Rattle.cdl_decimal.specs.Spells.{Parts, IsSign, none, plus, minus, CountIs, number, with_sign, upper, lower}
use Rattle.cdl_decimal.proofs.NearLaws.{near_is, near_one}
use Rattle.cdl_decimal.proofs.ScaleLaws.{power_positive}
use Rattle.cdl_tree.specs.Literals.{integer_of, IsReal, escaped, IsString}
use Rattle.cdl_tree.specs.inner.Strings.{put, closed, unescaped, opened, string_of, behind}
use Rattle.cdl_tree.proofs.Meanings.{some_string}
use Rattle.cdl_tree.specs.Spelled.{begins_with_digit}
use Rattle.cdl_tree.specs.Formed.{is_integer, is_not_negative}

-- ---- whole numbers

pub integer_fits : (text : List ℕ) (z : ℤ) → integer_of text ≡ Some z → is_integer z ≡ true
unfolding integer_of
integer_fits text z e = go (list_all is_ascii_digit text) (nat_le (number text) LARGEST_INTEGER) (number text) refl e
  where
    go : (b c : Bool) (n : ℕ) → nat_le n LARGEST_INTEGER ≡ c → (if b && c then Some (pos n) else None) ≡ Some z → is_integer z ≡ true
    go true true n f g = let same : pos n ≡ z = cc in subst (λ y. is_integer y ≡ true) same f
    go true false n f g = cc
    go false c n f g = cc

-- ---- other numbers

choice_not_negative : (b : Bool) (a : ℕ) → is_not_negative (cond b (pos a) (pos a +ℤ pos 1)) ≡ true
choice_not_negative true a = refl
choice_not_negative false a = refl

near_not_negative : (n d : ℕ) → is_not_negative (near (pos n) d) ≡ true
unfolding near
near_not_negative n d = choice_not_negative _ (n / d)

count_not_negative : (p : Parts) (q : ℤ) → p.negative ≡ false → CountIs p q → is_not_negative q ≡ true
count_not_negative p q sign c =
    let some : 0 < lower p = power_positive _ in
    let same : near (upper p *ℤ pos 1000000) (lower p) ≡ q = near_one (upper p *ℤ pos 1000000) _ q (lower p) some (near_is (upper p *ℤ pos 1000000) (lower p) some) c.near in
    let n : ℕ = number (p.whole ++ p.fraction) * 10 ^ cond p.exponent_negative 0 (number p.exponent) in
    let above : upper p ≡ pos n = ap (λ b. with_sign b n) sign in
    subst (λ y. is_not_negative y ≡ true) (ap (λ z. near (z *ℤ pos 1000000) (lower p)) (sym above) ∙ same) (near_not_negative (n * 1000000) (lower p))

no_minus : (sign rest text : List ℕ) (m : Bool) → IsSign sign m → text ≡ sign ++ rest → begins_with_digit text ≡ true → m ≡ false
no_minus sign rest text m none e d = refl
no_minus sign rest text m plus e d = refl
no_minus sign rest text m minus e d = let never : begins_with_digit (45 ∷ rest) ≡ true = subst (λ z. begins_with_digit z ≡ true) e d in cc

pub real_not_negative : (text : List ℕ) (q : ℤ) → IsReal text q → begins_with_digit text ≡ true → is_not_negative q ≡ true
real_not_negative text q r d = let s = r.1 in count_not_negative r.0 q (no_minus s.sign _ text r.0.negative s.signed s.is d) r.3

-- ---- strings

abbrev Highs : List ℕ → Type 0
Highs [] = Unit {0}
Highs (x ∷ l) = (128 ≤ x) × Highs l

highs : (l : List ℕ) → ((k : ℕ) → k < length l → 128 ≤ get_or l k 0) → Highs l
highs [] f = tt
highs (x ∷ l) f = (f 0 (omega arith), highs l (λ k h. f (suc k) (omega (arith, h))))

-- a character that is no ASCII one has no byte of ASCII
high : (c : ℕ) → 128 ≤ c → Highs (encode c)
high c m = highs (encode c) (λ k h. at k h (cases_lt (get_or (encode c) k 0) 128))
  where
    at : (k : ℕ) → k < length (encode c) → (get_or (encode c) k 0 < 128) ⊎ (128 ≤ get_or (encode c) k 0) → 128 ≤ get_or (encode c) k 0
    at k h (inl low) = let same = inside_one c [] (encode c) k (sym (append-nil (encode c))) h low in omega (arith, same, low, m)
    at k h (inr above) = above

other : (x k : ℕ) → k < 128 → 128 ≤ x → (x == k) ≡ false
other x k l h = grind (arith, nat_tests)

-- an escape stands for one byte of ASCII
escaped_low : (c d : ℕ) → c < 128 → escaped c ≡ Some d → d < 128
escaped_low c d low e = go (c == 39 || c == 34 || c == 63 || c == 92) (c == 97) (c == 98) (c == 102) (c == 110) (c == 114) (c == 116) (c == 118) e
  where
    go : (p q r s t u v w : Bool) → (if p then Some c else (if q then Some 7 else (if r then Some 8 else (if s then Some 12 else (if t then Some 10 else (if u then Some 13 else (if v then Some 9 else (if w then Some 11 else None)))))))) ≡ Some d → d < 128
    go true q r s t u v w e = let same : c ≡ d = cc in omega arith
    go false true r s t u v w e = let same : 7 ≡ d = cc in omega arith
    go false false true s t u v w e = let same : 8 ≡ d = cc in omega arith
    go false false false true t u v w e = let same : 12 ≡ d = cc in omega arith
    go false false false false true u v w e = let same : 10 ≡ d = cc in omega arith
    go false false false false false true v w e = let same : 13 ≡ d = cc in omega arith
    go false false false false false false true w e = let same : 9 ≡ d = cc in omega arith
    go false false false false false false false true e = let same : 11 ≡ d = cc in omega arith
    go false false false false false false false false e = cc

escaped_high : (x : ℕ) → 128 ≤ x → escaped x ≡ None
escaped_high x h =
    rw (other x 39 (omega arith) h) (rw (other x 34 (omega arith) h) (rw (other x 63 (omega arith) h) (rw (other x 92 (omega arith) h)
    (rw (other x 97 (omega arith) h) (rw (other x 98 (omega arith) h) (rw (other x 102 (omega arith) h) (rw (other x 110 (omega arith) h)
    (rw (other x 114 (omega arith) h) (rw (other x 116 (omega arith) h) (rw (other x 118 (omega arith) h) refl))))))))))

behind_none : (l : List ℕ) (x : ℕ) (r : Option (List ℕ)) → put (Some x) (behind l r) ≡ behind (x ∷ l) r
behind_none l x None = refl
behind_none l x (Some cs) = refl

behind_nil : (r : Option (List ℕ)) → r ≡ behind [] r
behind_nil None = refl
behind_nil (Some cs) = refl

plain_high : (x : ℕ) (rest : List ℕ) → 128 ≤ x → unescaped false (x ∷ rest) ≡ put (Some x) (unescaped false rest)
plain_high x rest h = rw (other x 34 (omega arith) h) (rw (other x 92 (omega arith) h) refl)

plain_run : (l rest : List ℕ) → Highs l → unescaped false (l ++ rest) ≡ behind l (unescaped false rest)
plain_run [] rest h = behind_nil (unescaped false rest)
plain_run (x ∷ l) rest h = plain_high x (l ++ rest) h.0 ∙ ap (put (Some x)) (plain_run l rest h.1) ∙ behind_none l x (unescaped false rest)

no_escape : (l rest : List ℕ) → Highs l → 0 < length l → unescaped true (l ++ rest) ≡ None
no_escape [] rest h some = let never : ⊥ = omega arith in absurd never
no_escape (x ∷ l) rest h some = ap (λ o. put o (unescaped false (l ++ rest))) (escaped_high x h.0)

one_ascii : (c : ℕ) → c < 128 → IsUtf8 (c ∷ [])
one_ascii c low = IsUtf8-from_ascii (c ∷ []) at
  where
    at : (i : ℕ) → slice_index (c ∷ []) i < 128
    at zero = low
    at (suc i) = omega arith

put_meant : (c : ℕ) (r : Option (List ℕ)) (s : List ℕ) → c < 128 → put (Some c) r ≡ Some s → ((x : List ℕ) → r ≡ Some x → IsUtf8 x) → IsUtf8 s
put_meant c None s low e f = cc
put_meant c (Some x) s low e f = let same : c ∷ x ≡ s = cc in subst IsUtf8 same (IsUtf8-append (c ∷ []) x (one_ascii c low) (f x refl))

run_meant : (c : ℕ) (r : Option (List ℕ)) (s : List ℕ) → IsScalar c → behind (encode c) r ≡ Some s → ((x : List ℕ) → r ≡ Some x → IsUtf8 x) → IsUtf8 s
run_meant c None s is e f = cc
run_meant c (Some x) s is e f = let same : encode c ++ x ≡ s = cc in subst IsUtf8 same (IsUtf8-append (encode c) x (IsUtf8-encode c is) (f x refl))

closed_meant : (rest s : List ℕ) → closed rest ≡ Some s → IsUtf8 s
closed_meant [] s e = let same : [] ≡ s = cc in subst IsUtf8 same IsUtf8-nil
closed_meant (c ∷ rest) s e = cc

-- a byte of ASCII behind a backslash, and one that stands elsewhere
escape_meant : (c : ℕ) (rest s : List ℕ) → c < 128 → unescaped true (c ∷ rest) ≡ Some s → ((x : List ℕ) → unescaped false rest ≡ Some x → IsUtf8 x) → IsUtf8 s
escape_meant c rest s low e f = go (escaped c) refl e
  where
    go : (o : Option ℕ) → escaped c ≡ o → put o (unescaped false rest) ≡ Some s → IsUtf8 s
    go None g h = cc
    go (Some d) g h = put_meant d (unescaped false rest) s (escaped_low c d low g) h f

ascii_meant : (c : ℕ) (rest s : List ℕ) → c < 128 → unescaped false (c ∷ rest) ≡ Some s → ((escape : Bool) (x : List ℕ) → unescaped escape rest ≡ Some x → IsUtf8 x) → IsUtf8 s
ascii_meant c rest s low e f = go (c == 34) (c == 92) e
  where
    go : (p q : Bool) → (if p then closed rest else (if q then unescaped true rest else put (Some c) (unescaped false rest))) ≡ Some s → IsUtf8 s
    go true q g = closed_meant rest s g
    go false true g = f true s g
    go false false g = put_meant c (unescaped false rest) s low g (f false)

some_bytes : (c : ℕ) → 0 < length (encode c)
some_bytes c = let n = length-encode c in let m = len_utf8_bounds c in omega (arith, n, m.0)

inside_meant : (cs : List ℕ) (escape : Bool) (s : List ℕ) → scalars cs ≡ true → unescaped escape (encodes cs) ≡ Some s → IsUtf8 s
inside_meant [] escape s all e = cc
inside_meant (c ∷ cs) escape s all e =
    let parts = and_parts (scalar c) (scalars cs) all in
    let later : (escape : Bool) (x : List ℕ) → unescaped escape (encodes cs) ≡ Some x → IsUtf8 x = λ escape x. inside_meant cs escape x parts.1 in
    elim (cases_lt c 128) [
      | inl low ↦ one escape low (subst (λ z. unescaped escape (z ++ encodes cs) ≡ Some s) (encode_ascii c low) e) later
      | inr above ↦ run escape above parts.0 e later
    ]
  where
    one : (escape : Bool) → c < 128 → unescaped escape (c ∷ encodes cs) ≡ Some s → ((escape : Bool) (x : List ℕ) → unescaped escape (encodes cs) ≡ Some x → IsUtf8 x) → IsUtf8 s
    one true low g later = escape_meant c (encodes cs) s low g (later false)
    one false low g later = ascii_meant c (encodes cs) s low g later

    run : (escape : Bool) → 128 ≤ c → IsScalar c → unescaped escape (encode c ++ encodes cs) ≡ Some s → ((escape : Bool) (x : List ℕ) → unescaped escape (encodes cs) ≡ Some x → IsUtf8 x) → IsUtf8 s
    run true above is g later = let none : None ≡ Some s = sym (no_escape (encode c) (encodes cs) (high c above) (some_bytes c)) ∙ g in cc
    run false above is g later = run_meant c (unescaped false (encodes cs)) s is (sym (plain_run (encode c) (encodes cs) (high c above)) ∙ g) (later false)

utf8_meant : (bytes s : List ℕ) → IsUtf8 bytes → unescaped false bytes ≡ Some s → IsUtf8 s
utf8_meant bytes s u e = inside_meant u.0 false s u.1.0 (ap (unescaped false) u.1.1 ∙ e)

opened_meant : (text s : List ℕ) → IsUtf8 text → opened text ≡ Some s → IsUtf8 s
opened_meant [] s u e = cc
opened_meant (c ∷ cs) s u e = go (c == 34) refl e
  where
    go : (b : Bool) → (c == 34) ≡ b → (if b then unescaped false cs else None) ≡ Some s → IsUtf8 s
    go true f g =
        let quote : c ∷ cs ≡ encode 34 ++ cs = ap (λ z. z ∷ cs) (eqb-true c 34 f) ∙ ap (λ z. z ++ cs) (sym (encode_ascii 34 (omega arith))) in
        utf8_meant cs s (IsUtf8-past_char (c ∷ cs) cs 34 u quote) g
    go false f g = cc

computed_utf8 : (text s : List ℕ) → is_utf8 text ≡ true → string_of text ≡ Some s → is_utf8 s ≡ true
unfolding string_of
computed_utf8 text s u e = is_utf8-from_IsUtf8 s (opened_meant text s (IsUtf8-from_is_utf8 text u) e)

pub string_utf8 : (text s : List ℕ) → is_utf8 text ≡ true → IsString text s → is_utf8 s ≡ true
string_utf8 text s u h = computed_utf8 text s u (some_string text s h)
