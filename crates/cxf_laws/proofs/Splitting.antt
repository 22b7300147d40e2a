-- A text splits in one way, and so no two steps and no two extended paths have one text.
use Rattle.std.proofs.Common.{ℕ, ◌+◌, ◌-◌, ◌*◌, ◌<◌, ◌≡◌, ◌==◌, ◌||◌, refl, sym, ap, ◌∙◌, Bool, true, false, cond, not, List, [], ◌∷◌, ◌++◌, codes, length, arith, append_assoc}
use Rattle.std.specs.List.{list_all}
use Rattle.std.proofs.lemmas.Bool.{and_parts, eqb-true, false≢true, true≢false}
use Rattle.std.proofs.lemmas.Bool.Decides.{nat_tests}
use Rattle.std.proofs.lemmas.List.{length-append}
use Rattle.std.proofs.lemmas.List.Folds.{list_all-append}
use Rattle.cdl_decimal.specs.Spells.{number, number_after}
use Rattle.cdl_decimal.proofs.DigitLaws.{number_after-append}
use Rattle.cdl_source.specs.Identifiers.{is_digit, is_word, is_word_byte}
use Rattle.cdl_source.proofs.Cases.{by_bool}
use Rattle.cdl_connect.specs.Paths.{IsDecimal, IsIndexText, IsStepText, Step, digit, extended, is_root_path, more, none, one, two}
use Rattle.cxf_graph.proofs.Texts.{all_weaker, decimal_digits, identifier_bytes, identifier_word, is_step_byte, step_bytes}

head_same : (x y : ℕ) (xs ys : List ℕ) → x ∷ xs ≡ y ∷ ys → x ≡ y
head_same x y xs ys e = cc

tail_same : (x y : ℕ) (xs ys : List ℕ) → x ∷ xs ≡ y ∷ ys → xs ≡ ys
tail_same x y xs ys e = cc

no_cons : (x : ℕ) (xs : List ℕ) → [] ≡ x ∷ xs → ⊥
no_cons x xs e = absurd (cc)

-- the text is empty, or begins with a byte that fails the test
abbrev pub Stops : (ℕ → Bool) → List ℕ → Type 0
Stops p [] = Unit {0}
Stops p (c ∷ cs) = p c ≡ false

stop_first : (p : ℕ → Bool) (us : List ℕ) (c : ℕ) (cs : List ℕ) → Stops p us → p c ≡ true → us ≡ c ∷ cs → ⊥
stop_first p [] c cs s h e = no_cons c cs e
stop_first p (u ∷ us) c cs s h e = true≢false (sym h ∙ ap p (sym (head_same u c us cs e)) ∙ s)

-- the front that passes the test, and what stands behind it
pub same_front : (p : ℕ → Bool) (xs ys us vs : List ℕ) → list_all p xs ≡ true → list_all p ys ≡ true → Stops p us → Stops p vs → xs ++ us ≡ ys ++ vs → (xs ≡ ys) × (us ≡ vs)
same_front p [] [] us vs a b s t e = (refl, e)
same_front p [] (y ∷ ys) us vs a b s t e = absurd (stop_first p us y (ys ++ vs) s (and_parts (p y) (list_all p ys) b).0 e)
same_front p (x ∷ xs) [] us vs a b s t e = absurd (stop_first p vs x (xs ++ us) t (and_parts (p x) (list_all p xs) a).0 (sym e))
same_front p (x ∷ xs) (y ∷ ys) us vs a b s t e =
    let r = same_front p xs ys us vs (and_parts (p x) (list_all p xs) a).1 (and_parts (p y) (list_all p ys) b).1 s t (tail_same x y (xs ++ us) (ys ++ vs) e) in
    (rw (head_same x y (xs ++ us) (ys ++ vs) e, r.0) refl, r.1)

-- decimals
decimal_number : (n : ℕ) (t : List ℕ) → IsDecimal n t → number t ≡ n
decimal_number _ _ (digit n h) = let e : 0 * 10 + (n + 48 - 48) ≡ n = omega arith in e
decimal_number _ _ (more n d t p h i) =
    let e : n * 10 + (d + 48 - 48) ≡ n * 10 + d = omega arith in
    number_after-append 0 t ((d + 48) ∷ []) ∙ ap (λ (z : ℕ). number_after z ((d + 48) ∷ [])) (decimal_number n t i) ∙ e

decimal_same : (k l : ℕ) (a b : List ℕ) → IsDecimal k a → IsDecimal l b → a ≡ b → k ≡ l
decimal_same k l a b i j e = sym (decimal_number k a i) ∙ ap number e ∙ decimal_number l b j

-- indices, behind their bracket
abbrev closing : List ℕ
closing = 93 ∷ []

abbrev following : List ℕ → List ℕ
following b = 44 ∷ (b ++ closing)

abbrev opened : List ℕ → List ℕ
opened t = 91 ∷ t

two_text : (a b : List ℕ) → codes "[" ++ a ++ codes "," ++ b ++ codes "]" ≡ opened (a ++ following b)
two_text a b = ap opened (append_assoc (a ++ codes ",") b (codes "]") ∙ append_assoc a (codes ",") (b ++ codes "]"))

marks_differ : (x y : ℕ) → x ≡ y → x ≡ 93 → y ≡ 44 → ⊥
marks_differ x y e p q = absurd (omega arith)

one_two : (k l : ℕ) (a b c : List ℕ) → IsDecimal k a → IsDecimal l b → opened (a ++ closing) ≡ opened (b ++ following c) → ⊥
one_two k l a b c i j e =
    let r = same_front is_digit a b closing (following c) (decimal_digits k a i) (decimal_digits l b j) refl refl (tail_same 91 91 (a ++ closing) (b ++ following c) e) in
    marks_differ 93 44 (head_same 93 44 [] (c ++ closing) r.1) refl refl

one_one : (k l : ℕ) (a b : List ℕ) → IsDecimal k a → IsDecimal l b → opened (a ++ closing) ≡ opened (b ++ closing) → k ≡ l
one_one k l a b i j e =
    decimal_same k l a b i j (same_front is_digit a b closing closing (decimal_digits k a i) (decimal_digits l b j) refl refl (tail_same 91 91 (a ++ closing) (b ++ closing) e)).0

two_two : (k l m o : ℕ) (a b c d : List ℕ) → IsDecimal k a → IsDecimal l b → IsDecimal m c → IsDecimal o d → opened (a ++ following b) ≡ opened (c ++ following d) → (k ≡ m) × (l ≡ o)
two_two k l m o a b c d i j p q e =
    let r = same_front is_digit a c (following b) (following d) (decimal_digits k a i) (decimal_digits m c p) refl refl (tail_same 91 91 (a ++ following b) (c ++ following d) e) in
    let s = same_front is_digit b d closing closing (decimal_digits l b j) (decimal_digits o d q) refl refl (tail_same 44 44 (b ++ closing) (d ++ closing) r.1) in
    (decimal_same k m a c i p r.0, decimal_same l o b d j q s.0)

index_same : (ks ls a b : List ℕ) → IsIndexText ks a → IsIndexText ls b → a ≡ b → ks ≡ ls
index_same _ _ _ _ none none e = refl
index_same _ _ _ _ none (one k a i) e = absurd (no_cons 91 (a ++ closing) e)
index_same _ _ _ _ none (two k l a b i j) e = absurd (no_cons 91 (a ++ following b) (e ∙ two_text a b))
index_same _ _ _ _ (one k a i) none e = absurd (no_cons 91 (a ++ closing) (sym e))
index_same _ _ _ _ (one k a i) (one l b j) e = ap (λ (z : ℕ). z ∷ []) (one_one k l a b i j e)
index_same _ _ _ _ (one k a i) (two l m b c j o) e = absurd (one_two k l a b c i j (e ∙ two_text b c))
index_same _ _ _ _ (two k l a b i j) none e = absurd (no_cons 91 (a ++ following b) (sym e ∙ two_text a b))
index_same _ _ _ _ (two l m b c j o) (one k a i) e = absurd (one_two k l a b c i j (sym e ∙ two_text b c))
index_same _ _ _ _ (two k l a b i j) (two m o c d p q) e =
    let r = two_two k l m o a b c d i j p q (sym (two_text a b) ∙ e ∙ two_text c d) in
    ap (λ (z : ℕ). z ∷ l ∷ []) r.0 ∙ ap (λ (z : ℕ). m ∷ z ∷ []) r.1

index_stops : (ks t : List ℕ) → IsIndexText ks t → Stops is_word_byte t
index_stops _ _ none = tt
index_stops _ _ (one k a i) = refl
index_stops _ _ (two k l a b i j) = refl

-- steps
step_is : (s t : Step) → s.name ≡ t.name → s.indices ≡ t.indices → s ≡ t
step_is s t p q = λ i. record { name = p i; indices = q i }

pub step_same : (s t : Step) (v w : List ℕ) → IsStepText s v → IsStepText t w → v ≡ w → s ≡ t
step_same s t v w i j e =
    let r = same_front is_word_byte s.name t.name i.indices j.indices (identifier_bytes s.name i.identifier) (identifier_bytes t.name j.identifier) (index_stops s.indices i.indices i.spelled) (index_stops t.indices j.indices j.spelled) (sym i.text ∙ e ∙ j.text) in
    step_is s t r.0 (index_same s.indices t.indices i.indices j.indices i.spelled j.spelled r.1)

word_long : (w : List ℕ) → is_word w ≡ true → 0 < length w
word_long [] h = absurd (false≢true h)
word_long (c ∷ cs) h = omega arith

pub step_long : (s : Step) (t : List ℕ) → IsStepText s t → 0 < length t
step_long s t i =
    let a = word_long s.name (identifier_word s.name i.identifier) in
    let b = length-append s.name i.indices in
    rw (i.text) (omega arith)

-- the marks of paths: `.` and `#`
abbrev pub no_mark : ℕ → Bool
no_mark c = not (c == 46 || c == 35)

step_no_mark : (c : ℕ) → is_step_byte c ≡ true → no_mark c ≡ true
step_no_mark c h = grind (arith, nat_tests)

pub step_unmarked : (s : Step) (t : List ℕ) → IsStepText s t → list_all no_mark t ≡ true
step_unmarked s t i = all_weaker is_step_byte no_mark t step_no_mark (step_bytes s t i)

mark_inside : (vs t : List ℕ) (k : ℕ) → no_mark k ≡ false → list_all no_mark (vs ++ k ∷ t) ≡ true → ⊥
mark_inside vs t k h e =
    let a = and_parts (list_all no_mark vs) (list_all no_mark (k ∷ t)) (sym (list_all-append no_mark vs (k ∷ t)) ∙ e) in
    true≢false (sym (and_parts (no_mark k) (list_all no_mark t) a.1).0 ∙ h)

-- a text splits at its last mark
same_split : (us vs s t : List ℕ) (m k : ℕ) → no_mark m ≡ false → no_mark k ≡ false → list_all no_mark s ≡ true → list_all no_mark t ≡ true → us ++ m ∷ s ≡ vs ++ k ∷ t → (us ≡ vs) × (m ≡ k) × (s ≡ t)
same_split [] [] s t m k h g a b e = (refl, head_same m k s t e, tail_same m k s t e)
same_split [] (v ∷ vs) s t m k h g a b e = absurd (mark_inside vs t k g (ap (list_all no_mark) (sym (tail_same m v s (vs ++ k ∷ t) e)) ∙ a))
same_split (u ∷ us) [] s t m k h g a b e = absurd (mark_inside us s m h (ap (list_all no_mark) (tail_same u k (us ++ m ∷ s) t e) ∙ b))
same_split (u ∷ us) (v ∷ vs) s t m k h g a b e =
    let r = same_split us vs s t m k h g a b (tail_same u v (us ++ m ∷ s) (vs ++ k ∷ t) e) in
    (rw (head_same u v (us ++ m ∷ s) (vs ++ k ∷ t) e, r.0) refl, r.1, r.2)

root_is : (p : List ℕ) → is_root_path p ≡ true → p ≡ codes "#"
root_is [] h = absurd (false≢true h)
root_is (c ∷ []) h = ap (λ (z : ℕ). z ∷ []) (eqb-true c 35 h)
root_is (c ∷ d ∷ ds) h = absurd (false≢true h)

-- what stands before the step of a path, and the mark between them
record IsSplit (p s : List ℕ) : Type 0 where
  pub front : List ℕ
  pub mark : ℕ
  pub marked : no_mark mark ≡ false
  pub text : extended p s ≡ front ++ mark ∷ s
  pub base : p ≡ cond (mark == 35) (codes "#") front

split : (p s : List ℕ) → IsSplit p s
split p s = by_bool {P = IsSplit p s} (is_root_path p)
    (λ h. record {
      front = [];
      mark = 35;
      marked = refl;
      text = ap (λ (z : Bool). cond z (p ++ s) (p ++ codes "." ++ s)) h ∙ ap (λ (z : List ℕ). z ++ s) (root_is p h);
      base = root_is p h;
    })
    (λ h. record {
      front = p;
      mark = 46;
      marked = refl;
      text = ap (λ (z : Bool). cond z (p ++ s) (p ++ codes "." ++ s)) h ∙ append_assoc p (codes ".") s;
      base = refl;
    })

-- two paths that are extended
pub extended_same : (p q s t : List ℕ) → list_all no_mark s ≡ true → list_all no_mark t ≡ true → extended p s ≡ extended q t → (p ≡ q) × (s ≡ t)
extended_same p q s t a b e =
    let x = split p s in
    let y = split q t in
    let r = same_split x.front y.front s t x.mark y.mark x.marked y.marked a b (sym x.text ∙ e ∙ y.text) in
    let f : cond (x.mark == 35) (codes "#") x.front ≡ cond (y.mark == 35) (codes "#") y.front =
    ap (λ (z : ℕ). cond (z == 35) (codes "#") x.front) r.1 ∙ ap (λ (z : List ℕ). cond (y.mark == 35) (codes "#") z) r.0 in
    (x.base ∙ f ∙ sym y.base, r.2)

-- no path that is extended is the root's
pub never_root : (p s : List ℕ) → list_all no_mark s ≡ true → 0 < length s → codes "#" ≡ extended p s → ⊥
never_root p s a l e =
    let x = split p s in
    let r = same_split [] x.front [] s 35 x.mark refl x.marked refl a (e ∙ x.text) in
    let g : length s ≡ 0 = sym (ap (λ (z : List ℕ). length z) r.2) in
    absurd (omega arith)
