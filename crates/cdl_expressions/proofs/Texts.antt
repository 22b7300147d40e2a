-- The laws of texts.
use Rattle.std.proofs.Common.{◌≡◌, ℕ, ◌≤◌, ◌<◌, Bool, true, false, not, List, [], ◌∷◌, ◌++◌, length, Ok, Err, refl, sym, subst, arith, if◌then◌else◌, append_assoc, append-nil}
use Rattle.cdl_tree.specs.declared.terminal.Terminal.{Terminal}
use Rattle.cdl_tree.specs.declared.terminal.Terminal.TheVariants as the
use Rattle.cdl_tree.specs.Words.{Lexeme, Word, same_terminal}
use Rattle.cdl_tree.specs.Grammar.{Strings, one_string, more_strings, TextOf, no_text, text as some_text}
use Rattle.cdl_reading.specs.Reading.{Parser, Outcome, and_then, pure, terminal, next, sees, after, expect}
use Rattle.cdl_reading.proofs.Steps.{Then, both, Is, is}
use Rattle.cdl_reading.proofs.Laws.{each, within_self, is_none, Law, wider, shaped, pure_law, a_token, Chosen, found, missing, only, only_is, is_only, eaten_law, One, expect_law, word_then}
use Rattle.cdl_reading.proofs.Repeats.{Repeats, stop, go, snoc, Loop, repeat_law}
use Rattle.cdl_expressions.specs.Arguments as spec

abbrev pub AnyText : Word → Word → Unit {0} → Type 0
AnyText u w a = TextOf w

data PlusR (a : Unit {0}) (u : Word) : Word → Unit {0} → Type 0 where
  plus_string : (p s : Lexeme) → p.terminal ≡ the.Plus → s.terminal ≡ the.Str → PlusR a u (p ∷ s ∷ []) tt

abbrev plus_step : Unit {0} → Word → Parser (Unit {0})
plus_step a s i = and_then (expect the.Plus i) (λ _. expect the.Str)

abbrev plus_loop : ℕ → Unit {0} → Word → Parser (Unit {0})
plus_loop n a s = spec.strings_from n

abbrev added : Bool → Word → Outcome (Unit {0})
added b i = if b then Ok (tt, next i) else Err i

loop_is : Loop (λ kd. same_terminal kd the.Plus) plus_step plus_loop
unfolding spec.strings_from expect sees after
loop_is = record { at_end = λ a s i. refl; turn = λ n a s i. turn n i (same_terminal (terminal i) the.Plus) }
  where
    turn : (n : ℕ) (i : Word) (b : Bool) → (if b then (λ i. and_then (expect the.Str i) (λ _. spec.strings_from n)) else pure tt) (if b then next i else i)
        ≡ (if b then and_then (and_then (added b i) (λ _. expect the.Str)) (λ _. spec.strings_from n) else pure tt i)
    turn n i true = refl
    turn n i false = refl

plus_goes : (a : Unit {0}) (u w : Word) (b : Unit {0}) → Then (One the.Plus) (λ _. One the.Str) u w b → PlusR a u w b
plus_goes a u w b (both (a_token p {a = x} e) (a_token s {a = y} f)) = plus_string p s (only_is the.Plus p.terminal x e) (only_is the.Str s.terminal y f)

plus_comes : (a : Unit {0}) (u w : Word) (b : Unit {0}) → PlusR a u w b → Then (One the.Plus) (λ _. One the.Str) u w b
plus_comes a u _ b (plus_string p s e f) = both (a_token p (is_only the.Plus p.terminal e)) (a_token s (is_only the.Str s.terminal f))

plus_some : (a : Unit {0}) (u w : Word) (b : Unit {0}) → PlusR a u w b → 0 < length w
plus_some a u _ b (plus_string p s e f) = omega arith

-- a string and what is added to it
data Strung (u : Word) : Word → Type 0 where
  strung : (s : Lexeme) {y : Word} {a : Unit {0}} → s.terminal ≡ the.Str → Repeats PlusR tt (u ++ s ∷ []) y a → Strung u (s ∷ y)

strung_more : (u v : Word) (p s : Lexeme) → p.terminal ≡ the.Plus → s.terminal ≡ the.Str → Strung u v → Strung u (v ++ p ∷ s ∷ [])
strung_more u _ p s e f (strung t h r) = strung t h (snoc r (plus_string p s e f))

strings_strung : (u : Word) {w : Word} → Strings w → Strung u w
strings_strung u (one_string s h) = strung s {a = tt} h stop
strings_strung u (more_strings {v} p s x e f) = strung_more u v p s e f (strings_strung u x)

-- what was read since the strings began
strung_strings : (t : Lexeme) → t.terminal ≡ the.Str → {a b : Unit {0}} {u w : Word} → (v : Word) → Strings v → Repeats PlusR a u w b → Strings (v ++ w)
strung_strings t h v x (stop) = subst Strings (sym (append-nil v)) x
strung_strings t h v x (go {v = z} (plus_string p s e f) r) = subst Strings (append_assoc v (p ∷ s ∷ []) z) (strung_strings t h (v ++ p ∷ s ∷ []) (more_strings p s x e f) r)

module _ (d d' : ℕ) (S : List Terminal) (no_string : each (λ x. is_none (only the.Str x)) S ≡ true) (no_plus : each (λ kd. not (same_terminal kd the.Plus)) S ≡ true) where
  plus_law : (a : Unit {0}) → Law d d' (PlusR a) (the.Plus ∷ []) (the.Plus ∷ S) (plus_step a) (plus_step a)
  unfolding same_terminal
  plus_law a = shaped (plus_goes a) (plus_comes a) (word_then the.Plus refl (expect_law {S = the.Plus ∷ S} the.Str refl))

  strings_law : (n m : ℕ) → n ≤ d → m ≤ d' → Law n m (Repeats PlusR tt) (the.Plus ∷ S) S (λ s. spec.strings_from n) (λ s. spec.strings_from m)
  unfolding same_terminal
  strings_law n m ln lm =
      repeat_law d d' (λ kd. same_terminal kd the.Plus) plus_step plus_step plus_loop plus_loop PlusR (the.Plus ∷ []) S (the.Plus ∷ S) loop_is loop_is plus_some plus_law (within_self (the.Plus ∷ S)) refl no_plus n m ln lm tt

  text_goes : (u w : Word) (a : Unit {0}) → Chosen (only the.Str) (λ _. Repeats PlusR tt) (Is tt) u w a → TextOf w
  text_goes u w a (found t {a = b} {y = y} e r) =
      let h = only_is the.Str t.terminal b e in some_text (strung_strings t h (t ∷ []) (one_string t h) r)
  text_goes u w a (missing is) = no_text

  strung_chosen : (u w : Word) (a : Unit {0}) → Strung u w → Chosen (only the.Str) (λ _. Repeats PlusR tt) (Is tt) u w a
  strung_chosen u _ a (strung s h r) = found s {a = tt} (is_only the.Str s.terminal h) r

  text_comes : (u w : Word) (a : Unit {0}) → TextOf w → Chosen (only the.Str) (λ _. Repeats PlusR tt) (Is tt) u w a
  text_comes u _ a no_text = missing is
  text_comes u w a (some_text x) = strung_chosen u w a (strings_strung u x)

  pub text_law : Law d d' AnyText (the.Str ∷ S) S (λ s. spec.text_of d) (λ s. spec.text_of d')
  unfolding spec.text_of same_terminal
  text_law =
      wider (the.Str ∷ S) S (within_self (the.Str ∷ S)) (within_self S)
      (shaped text_goes text_comes (eaten_law {n' = d} {m' = d'} the.Str refl (omega arith) (omega arith)
      (wider (the.Plus ∷ S) S (within_self (the.Plus ∷ S)) (within_self S) (strings_law d d' (omega arith) (omega arith))) (pure_law {S = S} tt) no_string))
