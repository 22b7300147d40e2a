-- What begins some bytes is one gap or one token.
use Rattle.std.proofs.Common.{◌≡◌, ℕ, ◌+◌, true, false, ◌||◌, ◌==◌, [], ◌∷◌, ◌++◌, length, refl, sym, ap, ◌∙◌, subst, arith, append_assoc}
use Rattle.std.proofs.lemmas.Bool.{eqb-false}
use Rattle.std.proofs.lemmas.Bool.Decides.{nat_tests}
use Rattle.std.specs.List.{list_all, prefix_len}
use Rattle.cdl_source.specs.Identifiers.{is_digit, is_initial}
use Rattle.cdl_source.specs.declared.place.TokenSort.{TokenSort}
use Rattle.cdl_lex.specs.Spellings.{Bytes, is_blank, Spelling}
use Rattle.cdl_lex.specs.Splits.{IsToken, is_inner, EndsLine, HoldsNoClose, IsGap, blank, line, block}
use Rattle.cdl_lex.specs.Steps.{block_len}
use Rattle.cdl_lex.proofs.Runs.{run_through, run_none, same_front}
use Rattle.cdl_lex.proofs.Spelled.{plain_is, symbol_is_plain, Sign, Fits, head, head_sign_of, fits, not_empty, one_sort}
use Rattle.cdl_lex.proofs.Closed.{block_most, same_some}
use Rattle.cdl_lex.proofs.Pieces.{slash_alone}

-- ---- one longest token

-- Two fronts of one list are the same, or one of them is longer.
data Fronts : Bytes → Bytes → Bytes → Bytes → Type 0 where
  same : (s b : Bytes) → Fronts s b s b
  first : (s m b : Bytes) (x : ℕ) → Fronts s (x ∷ (m ++ b)) (s ++ x ∷ m) b
  second : (s m b : Bytes) (x : ℕ) → Fronts (s ++ x ∷ m) b s (x ∷ (m ++ b))

one_more : (c : ℕ) (s b t r : Bytes) → Fronts s b t r → Fronts (c ∷ s) b (c ∷ t) r
one_more c _ _ _ _ (same s b) = same (c ∷ s) b
one_more c _ _ _ _ (first s m b x) = first (c ∷ s) m b x
one_more c _ _ _ _ (second s m b x) = second (c ∷ s) m b x

fronts : (s b t r : Bytes) → s ++ b ≡ t ++ r → Fronts s b t r
fronts [] b [] r e = subst (Fronts [] b []) e (same [] b)
fronts [] b (y ∷ t) r e = subst (λ z. Fronts [] z (y ∷ t) r) (sym e) (first [] t r y)
fronts (c ∷ s) b [] r e = subst (Fronts (c ∷ s) b []) e (second [] s b c)
fronts (c ∷ s) b (y ∷ t) r e =
    let head : c ≡ y = cc in
    let tail : s ++ b ≡ t ++ r = cc in
    subst (λ z. Fronts (c ∷ s) b (z ∷ t) r) head (one_more c s b t r (fronts s b t r tail))

pub one_token : (s b t r : Bytes) (k j : TokenSort) → IsToken s k b → IsToken t j r → s ++ b ≡ t ++ r → (s ≡ t) × (b ≡ r) × (k ≡ j)
one_token s b t r k j x y e = go s b t r (fronts s b t r e) x y
  where
    go : (s b t r : Bytes) → Fronts s b t r → IsToken s k b → IsToken t j r → (s ≡ t) × (b ≡ r) × (k ≡ j)
    go _ _ _ _ (same s b) x y = (refl, refl, one_sort x.spelling y.spelling refl)
    go _ _ _ _ (first s m b c) x y = absurd (x.longest c m b j refl y.spelling)
    go _ _ _ _ (second s m b c) x y = absurd (y.longest c m b k refl x.spelling)

-- ---- one gap

first_same : (c d : ℕ) (s b : Bytes) → c ∷ b ≡ d ∷ s → c ≡ d
first_same c d s b e = cc

rest_same : (c d : ℕ) (s b : Bytes) → c ∷ b ≡ d ∷ s → b ≡ s
rest_same c d s b e = cc

abbrev second_of : Bytes → ℕ
second_of [] = 0
second_of (c ∷ []) = 0
second_of (c ∷ d ∷ b) = d

blank_no_slash : (c : ℕ) → is_blank c ≡ true → c ≡ 47 → ⊥
blank_no_slash c f e = let never : true ≡ false = sym f ∙ ap is_blank e in cc

line_size : (s b : Bytes) → list_all is_inner s ≡ true → EndsLine b → prefix_len is_inner (s ++ b) ≡ length s
line_size s b all ends =
    let none : prefix_len is_inner b ≡ 0 = run_none is_inner b ends in
    run_through is_inner s b all ∙ ap (λ n. length s + n) none ∙ (let z : length s + 0 ≡ length s = omega arith in z)

lines : (s b t r : Bytes) → list_all is_inner s ≡ true → EndsLine b → list_all is_inner t ≡ true → EndsLine r → s ++ b ≡ t ++ r → (s ≡ t) × (b ≡ r)
lines s b t r all ends every stops e = same_front s t b r e (sym (line_size s b all ends) ∙ ap (prefix_len is_inner) e ∙ line_size t r every stops)

close_behind : (s b : Bytes) → (s ++ 42 ∷ 47 ∷ []) ++ b ≡ s ++ 42 ∷ 47 ∷ b
close_behind s b = append_assoc s (42 ∷ 47 ∷ []) b

blocks : (s b t r : Bytes) → HoldsNoClose s → HoldsNoClose t → (s ++ 42 ∷ 47 ∷ []) ++ b ≡ (t ++ 42 ∷ 47 ∷ []) ++ r → (s ≡ t) × (b ≡ r)
blocks s b t r h g e =
    let whole : s ++ 42 ∷ 47 ∷ b ≡ t ++ 42 ∷ 47 ∷ r = sym (close_behind s b) ∙ e ∙ close_behind t r in
    let sizes : length s + 2 ≡ length t + 2 = same_some _ _ (sym (block_most s b h) ∙ ap block_len whole ∙ block_most t r g) in
    let size : length s ≡ length t = omega arith in
    let both = same_front s t (42 ∷ 47 ∷ b) (42 ∷ 47 ∷ r) whole size in
    (both.0, rest_same 47 47 r b (rest_same 42 42 (47 ∷ r) (47 ∷ b) both.1))

pub one_gap : (s b t r : Bytes) → IsGap s b → IsGap t r → s ++ b ≡ t ++ r → (s ≡ t) × (b ≡ r)
one_gap _ _ _ _ (blank c b f) (blank d r g) e = (ap (λ z. z ∷ []) (first_same c d r b e), rest_same c d r b e)
one_gap _ _ _ _ (blank c b f) (line t r all ends) e = absurd (blank_no_slash c f (first_same c 47 _ b e))
one_gap _ _ _ _ (blank c b f) (block t r h) e = absurd (blank_no_slash c f (first_same c 47 _ b e))
one_gap _ _ _ _ (line s b all ends) (blank d r g) e = absurd (blank_no_slash d g (sym (first_same 47 d r _ e)))
one_gap _ _ _ _ (line s b all ends) (line t r every stops) e =
    let both = lines s b t r all ends every stops (rest_same 47 47 _ _ (rest_same 47 47 _ _ e)) in
    (ap (λ z. 47 ∷ 47 ∷ z) both.0, both.1)
one_gap _ _ _ _ (line s b all ends) (block t r h) e = absurd (eqb-false 42 47 refl (sym (ap second_of e)))
one_gap _ _ _ _ (block s b h) (blank d r g) e = absurd (blank_no_slash d g (sym (first_same 47 d r _ e)))
one_gap _ _ _ _ (block s b h) (line t r all ends) e = absurd (eqb-false 42 47 refl (ap second_of e))
one_gap _ _ _ _ (block s b h) (block t r g) e =
    let both = blocks s b t r h g (rest_same 42 42 _ _ (rest_same 47 47 _ _ e)) in
    (ap (λ z. 47 ∷ 42 ∷ (z ++ 42 ∷ 47 ∷ [])) both.0, both.1)

-- ---- not both

blank_head : (c : ℕ) → is_blank c ≡ true → head c ≡ Sign
blank_head c f =
    head_sign_of c (no_initial c f) (no_digit c f) (no_quote c f)
  where
    no_initial : (c : ℕ) → is_blank c ≡ true → is_initial c ≡ false
    no_initial c e = grind (arith, nat_tests)

    no_digit : (c : ℕ) → is_blank c ≡ true → is_digit c ≡ false
    no_digit c e = grind (arith, nat_tests)

    no_quote : (c : ℕ) → is_blank c ≡ true → (c == 34) ≡ false
    no_quote c e = grind (arith, nat_tests)

blank_no_spelling : (c : ℕ) (s : Bytes) (k : TokenSort) → is_blank c ≡ true → Spelling (c ∷ s) k → ⊥
blank_no_spelling c s k f x =
    let p : Fits Sign c s = subst (λ z. Fits z c s) (blank_head c f) (fits x c s refl) in
    let never : true ≡ false = sym f ∙ (plain_is c (symbol_is_plain c p.0)).no_blank in cc

comment_no_token : (d : ℕ) (b t r : Bytes) (k : TokenSort) → (d == 47 || d == 42) ≡ true → IsToken t k r → 47 ∷ d ∷ b ≡ t ++ r → ⊥
comment_no_token d b [] r k f y e = not_empty y.spelling refl
comment_no_token d b (c ∷ t) r k f y e =
    let same : c ≡ 47 = sym (first_same 47 c (t ++ r) (d ∷ b) e) in
    let alone : t ≡ [] = slash_alone t k (subst (λ z. Spelling (z ∷ t) k) same y.spelling) in
    let whole : c ∷ t ≡ 47 ∷ [] = ap (λ z. z ∷ t) same ∙ ap (λ z. 47 ∷ z) alone in
    let behind : r ≡ d ∷ b = sym (rest_same 47 47 r (d ∷ b) (e ∙ ap (λ z. z ++ r) whole)) in
    let never : true ≡ false = sym f ∙ y.apart whole d b behind in cc

pub not_both : (s b t r : Bytes) (k : TokenSort) → IsGap s b → IsToken t k r → s ++ b ≡ t ++ r → ⊥
not_both _ _ t r k (blank c b f) y e = go t y.spelling e
  where
    go : (t : Bytes) → Spelling t k → c ∷ b ≡ t ++ r → ⊥
    go [] x e = not_empty x refl
    go (d ∷ t) x e = let same : d ≡ c = sym (first_same c d (t ++ r) b e) in blank_no_spelling c t k f (subst (λ z. Spelling (z ∷ t) k) same x)
not_both _ _ t r k (line s b all ends) y e = comment_no_token 47 (s ++ b) t r k refl y e
not_both _ _ t r k (block s b h) y e = comment_no_token 42 ((s ++ 42 ∷ 47 ∷ []) ++ b) t r k refl y e
