-- The bytes of the texts of steps, and that texts and paths made of them are UTF-8.
use Rattle.std.proofs.Common.{ℕ, zero, suc, ◌+◌, ◌<◌, ◌≡◌, ◌==◌, ◌||◌, refl, ◌∙◌, Bool, true, false, cond, List, [], ◌∷◌, ◌++◌, IsAscii, IsUtf8, codes, arith, nat_lt}
use Rattle.std.specs.List.{list_all}
use Rattle.std.proofs.lemmas.Bool.{and_from, and_parts, ltb-true}
use Rattle.std.proofs.lemmas.Bool.Decides.{nat_tests}
use Rattle.std.proofs.lemmas.Str.{IsUtf8-append, IsUtf8-from_ascii}
use Rattle.std.proofs.lemmas.Str.Ascii.{IsAscii-nil}
use Rattle.std.proofs.lemmas.List.Folds.{list_all-append}
use Rattle.cdl_source.specs.Identifiers.{is_digit, is_identifier, is_initial, is_word, is_word_byte}
use Rattle.cdl_connect.specs.Paths.{IsDecimal, IsIndexText, IsStepText, Step, digit, extended, is_root_path, more, none, one, two}

-- what all bytes of a text are
pub all_both : (p : ℕ → Bool) (xs ys : List ℕ) → list_all p xs ≡ true → list_all p ys ≡ true → list_all p (xs ++ ys) ≡ true
all_both p xs ys a b = list_all-append p xs ys ∙ and_from (list_all p xs) (list_all p ys) a b

pub all_weaker : (p q : ℕ → Bool) (xs : List ℕ) → ((x : ℕ) → p x ≡ true → q x ≡ true) → list_all p xs ≡ true → list_all q xs ≡ true
all_weaker p q [] f h = refl
all_weaker p q (x ∷ xs) f h =
    let b = and_parts (p x) (list_all p xs) h in
    and_from (q x) (list_all q xs) (f x b.0) (all_weaker p q xs f b.1)

abbrev pub is_low : ℕ → Bool
is_low c = nat_lt c 128

low_ascii : (t : List ℕ) → list_all is_low t ≡ true → IsAscii t
low_ascii [] h i = IsAscii-nil i
low_ascii (c ∷ cs) h zero = ltb-true c 128 (and_parts (is_low c) (list_all is_low cs) h).0
low_ascii (c ∷ cs) h (suc i) = low_ascii cs (and_parts (is_low c) (list_all is_low cs) h).1 i

pub low_utf8 : (t : List ℕ) → list_all is_low t ≡ true → IsUtf8 t
low_utf8 t h = IsUtf8-from_ascii t (low_ascii t h)

-- what a step is made of: letters, digits, `_`, and the marks of indices
abbrev pub is_step_byte : ℕ → Bool
is_step_byte c = is_word_byte c || (c == 91 || c == 93 || c == 44)

step_low : (c : ℕ) → is_step_byte c ≡ true → is_low c ≡ true
step_low c h = grind (arith, nat_tests)

word_step : (c : ℕ) → is_word_byte c ≡ true → is_step_byte c ≡ true
word_step c h = rw h refl

digit_word : (c : ℕ) → is_digit c ≡ true → is_word_byte c ≡ true
digit_word c h = grind (arith, nat_tests)

digit_is : (d : ℕ) → d < 10 → is_digit (d + 48) ≡ true
digit_is d h = grind (arith, nat_tests)

pub decimal_digits : (n : ℕ) (t : List ℕ) → IsDecimal n t → list_all is_digit t ≡ true
decimal_digits _ _ (digit n h) = and_from (is_digit (n + 48)) true (digit_is n h) refl
decimal_digits _ _ (more n d t p h i) = all_both is_digit t ((d + 48) ∷ []) (decimal_digits n t i) (and_from (is_digit (d + 48)) true (digit_is d h) refl)

decimal_step : (n : ℕ) (t : List ℕ) → IsDecimal n t → list_all is_step_byte t ≡ true
decimal_step n t d = all_weaker is_digit is_step_byte t (λ c h. word_step c (digit_word c h)) (decimal_digits n t d)

index_step : (ks t : List ℕ) → IsIndexText ks t → list_all is_step_byte t ≡ true
index_step _ _ none = refl
index_step _ _ (one k a d) = all_both is_step_byte a (codes "]") (decimal_step k a d) refl
index_step _ _ (two k l a b d e) =
    let front = all_both is_step_byte (codes "[" ++ a) (codes ",") (decimal_step k a d) refl in
    all_both is_step_byte (codes "[" ++ a ++ codes "," ++ b) (codes "]") (all_both is_step_byte (codes "[" ++ a ++ codes ",") b front (decimal_step l b e)) refl

word_bytes : (w : List ℕ) → is_word w ≡ true → list_all is_word_byte w ≡ true
word_bytes [] h = refl
word_bytes (c ∷ cs) h =
    let b = and_parts (is_initial c) (list_all is_word_byte cs) h in
    and_from (is_word_byte c) (list_all is_word_byte cs) (rw b.0 refl) b.1

-- an identifier is a word
pub identifier_word : (w : List ℕ) → is_identifier w ≡ true → is_word w ≡ true
identifier_word w h = (and_parts _ (is_word w) (and_parts _ _ h).0).1

pub identifier_bytes : (w : List ℕ) → is_identifier w ≡ true → list_all is_word_byte w ≡ true
identifier_bytes w h = word_bytes w (identifier_word w h)

pub step_bytes : (s : Step) (t : List ℕ) → IsStepText s t → list_all is_step_byte t ≡ true
step_bytes s t i = rw (i.text) (all_both is_step_byte s.name i.indices (all_weaker is_word_byte is_step_byte s.name word_step (identifier_bytes s.name i.identifier)) (index_step s.indices i.indices i.spelled))

pub step_utf8 : (s : Step) (t : List ℕ) → IsStepText s t → IsUtf8 t
step_utf8 s t i = low_utf8 t (all_weaker is_step_byte is_low t step_low (step_bytes s t i))

-- a path that is extended by a step
pub extended_utf8 : (p t : List ℕ) → IsUtf8 p → IsUtf8 t → IsUtf8 (extended p t)
extended_utf8 p t a b = elim (is_root_path p) as (λ r. IsUtf8 (cond r (p ++ t) (p ++ codes "." ++ t))) [
  | true ↦ IsUtf8-append p t a b
  | false ↦ IsUtf8-append (p ++ codes ".") t (IsUtf8-append p (codes ".") a (low_utf8 (codes ".") refl)) b
]
