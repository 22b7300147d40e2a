-- The tokens from a place on.
use Rattle.std.proofs.Common.{◌≡◌, ℕ, zero, suc, ◌+◌, ◌-◌, ◌<◌, ◌≤◌, List, [], ◌∷◌, length, map, take, drop, Some, refl, sym, ap, ◌∙◌, subst, arith, add-one, length-drop}
use Rattle.std.proofs.lemmas.List.{length-map}
use Rattle.std.proofs.lemmas.Option.{slice_get-map}
use Rattle.std.specs.List.{slice_get}
use Rattle.std.specs.Option.{option_map}
use Rattle.cdl_source.specs.declared.place.Token.{Token}
use Rattle.cdl_lex.specs.TokenList.{TokenList}
use Rattle.cdl_tree.specs.Words.{Lexeme, Word, ending, span_of}
use Rattle.cdl_tree.specs.Terminals.{lexeme}
use Rattle.cdl_reading.specs.Reading.{terminal, text, span, next, since}
use Rattle.cdl_reading.specs.Reading.{word_of as lexemes}

drop_next : (ts : Word) (i : ℕ) → drop (suc i) ts ≡ next (drop i ts)
drop_next [] zero = refl
drop_next [] (suc i) = refl
drop_next (t ∷ ts) zero = refl
drop_next (t ∷ ts) (suc i) = drop_next ts i

pub next_is : (ts : Word) (i : ℕ) → drop (i + 1) ts ≡ next (drop i ts)
next_is ts i = rw add-one (drop_next ts i)

drop_map : (f : Token → Lexeme) (ts : List Token) (t : Token) (i : ℕ) → slice_get ts i ≡ Some t → drop i (map f ts) ≡ f t ∷ drop (suc i) (map f ts)
drop_map f [] t i e = cc
drop_map f (s ∷ ts) t zero e = let same : s ≡ t = cc in ap (λ z. f z ∷ map f ts) same
drop_map f (s ∷ ts) t (suc i) e = drop_map f ts t i e

-- what stands at a place, and what behind it
pub ahead_is : (w : TokenList) (i : ℕ) (t : Token) → slice_get w.items i ≡ Some t → drop i (lexemes w) ≡ lexeme w.bytes t ∷ drop (i + 1) (lexemes w)
ahead_is w i t e = rw add-one (drop_map (lexeme w.bytes) w.items t i e)

pub terminal_is : (w : TokenList) (i : ℕ) (t : Token) (ts : Word) → ts ≡ drop i (lexemes w) → slice_get w.items i ≡ Some t → (lexeme w.bytes t).terminal ≡ terminal ts
terminal_is w i t ts e f = ap terminal (sym (e ∙ ahead_is w i t f))

pub text_is : (w : TokenList) (i : ℕ) (t : Token) (ts : Word) → ts ≡ drop i (lexemes w) → slice_get w.items i ≡ Some t → (lexeme w.bytes t).text ≡ text ts
text_is w i t ts e f = ap text (sym (e ∙ ahead_is w i t f))

pub spans_is : (w : TokenList) (i : ℕ) (t : Token) (ts : Word) → ts ≡ drop i (lexemes w) → slice_get w.items i ≡ Some t → t.span ≡ span ts
spans_is w i t ts e f = ap span (sym (e ∙ ahead_is w i t f))

-- ---- spans

ending_at : (ts : Word) (m last : ℕ) (t : Lexeme) → slice_get ts m ≡ Some t → ending last (take (suc m) ts) ≡ t.span.end
ending_at [] m last t e = cc
ending_at (s ∷ ts) zero last t e = let same : s ≡ t = cc in ap (λ z. z.span.end) same
ending_at (s ∷ ts) (suc m) last t e = ending_at ts m s.span.end t e

got_at : (f : Token → Lexeme) (ts : List Token) (i j m : ℕ) (t : Token) → j ≡ i + m → slice_get ts j ≡ Some t → slice_get (drop i (map f ts)) m ≡ Some (f t)
got_at f [] i j m t at e = cc
got_at f (s ∷ ts) zero j m t at e =
    let same : j ≡ m = omega arith in slice_get-map f (s ∷ ts) m ∙ ap (option_map f) (subst (λ z. slice_get (s ∷ ts) z ≡ Some t) same e)
got_at f (s ∷ ts) (suc i) zero m t at e = let never : ⊥ = omega arith in absurd never
got_at f (s ∷ ts) (suc i) (suc j) m t at e = got_at f ts i j m t (omega arith) e

span_between : (ts : Word) (m : ℕ) (first last : Lexeme) → slice_get ts 0 ≡ Some first → slice_get ts m ≡ Some last
    → record { start = first.span.start; end = last.span.end } ≡ span_of (take (suc m) ts)
span_between [] m first last e f = cc
span_between (t ∷ ts) m first last e f =
    let same : t ≡ first = cc in
    sym (ap (λ z. record { start = t.span.start; end = z }) (ending_at (t ∷ ts) m 0 last f) ∙ ap (λ z. record { start = z.span.start; end = last.span.end }) same)

-- from the token at i up to the one before the end
pub span_is : (w : TokenList) (i end : ℕ) (first last : Token) (start now : Word) → start ≡ drop i (lexemes w) → end ≡ length w.items - length now → i < end
    → slice_get w.items i ≡ Some first → slice_get w.items (end - 1) ≡ Some last → record { start = first.span.start; end = last.span.end } ≡ span_of (since start now)
span_is w i end first last start now at is more e f =
    let count : length start - length now ≡ suc (end - 1 - i) = omega (arith, ap length at, length-drop i (lexemes w), length-map w.items (lexeme w.bytes)) in
    let head = got_at (lexeme w.bytes) w.items i i 0 first (omega arith) e in
    let tail = got_at (lexeme w.bytes) w.items i (end - 1) (end - 1 - i) last (omega arith) f in
    span_between (drop i (lexemes w)) (end - 1 - i) (lexeme w.bytes first) (lexeme w.bytes last) head tail
    ∙ ap (λ z. span_of (take (suc (end - 1 - i)) z)) (sym at) ∙ ap (λ n. span_of (take n start)) (sym count)

pub no_span : (w : TokenList) (i end : ℕ) (start now : Word) → start ≡ drop i (lexemes w) → end ≡ length w.items - length now → end ≤ i
    → record { start = 0; end = 0 } ≡ span_of (since start now)
no_span w i end start now at is none =
    let count : length start - length now ≡ 0 = omega (arith, ap length at, length-drop i (lexemes w), length-map w.items (lexeme w.bytes)) in
    ap (λ n. span_of (take n start)) (sym count)
