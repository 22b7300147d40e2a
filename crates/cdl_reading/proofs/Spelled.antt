-- The tokens of a text are spelled as the grammar's words want them.
use Rattle.std.proofs.Common.{◌≡◌, ℕ, ◌+◌, ◌-◌, ◌≤◌, ◌<◌, Bool, true, false, ◌&&◌, nat_le, not, if◌then◌else◌, List, [], ◌∷◌, ◌++◌, length, drop, get_or, slice_range, suc, refl, sym, ap, ◌∙◌, subst, arith, append_assoc, length-append, length-drop, add-zero}
use Rattle.std.proofs.lemmas.Bool.Decides.{nat_tests}
use Rattle.std.proofs.lemmas.List.{get_or-drop}
use Rattle.std.proofs.Math.Seq.{get_or-append_seam}
use Rattle.std.proofs.lemmas.List.Folds.{drop_split}
use Rattle.std.proofs.lemmas.Str.{IsUtf8-between, IsCharBoundary-before_ascii, IsCharBoundary-after_ascii, is_utf8-from_IsUtf8}
use Rattle.std.proofs.lemmas.Bool.{and_from}
use Rattle.std.specs.List.{list_all}
use Rattle.std.specs.Str.{bytes_eq, IsUtf8, IsCharBoundary}
use Rattle.cdl_source.specs.Identifiers.{is_word_byte, is_initial, is_keyword, is_identifier}
use Rattle.cdl_source.specs.declared.place.TokenSort.{TokenSort}
use Rattle.cdl_source.specs.declared.place.TokenSort.TheVariants as sort
use Rattle.cdl_source.specs.declared.place.Token.{Token}
use Rattle.cdl_decimal.specs.Spells.{AllDigits}
use Rattle.cdl_lex.specs.Spellings.{Bytes, Spelling, identifier, keyword, integer, real, string, symbol, pair}
use Rattle.cdl_lex.specs.TokenList.{TokenList, text_of, LiesWithin, LieWithin}
use Rattle.cdl_lex.specs.Limits.{IsPast}
use Rattle.cdl_lex.specs.Texts.{AreSpelled, FitLimits, AreTokens}
use Rattle.cdl_lex.proofs.Spelled.{digit_is}
use Rattle.cdl_tree.specs.declared.terminal.Terminal.{Terminal}
use Rattle.cdl_tree.specs.declared.terminal.Terminal.TheVariants as the
use Rattle.cdl_tree.specs.Terminals as terminals
use Rattle.cdl_tree.specs.Terminals.{lookup, terminal_of, lexeme, lexemes}
use Rattle.cdl_tree.specs.Spelled.{begins_with_digit, is_spelled_as, are_spelled}
use Rattle.cdl_reading.specs.Reading.{word_of}

-- ---- words and symbols, whose texts are of no account

abbrev is_bare : Terminal → Bool
is_bare the.Identifier = false
is_bare the.Integer = false
is_bare the.Real = false
is_bare the.Str = false
is_bare _ = true

bare_spelled : (terminal : Terminal) (text : Bytes) → is_bare terminal ≡ true → is_spelled_as terminal text ≡ true
bare_spelled the.Identifier text e = cc
bare_spelled the.Integer text e = cc
bare_spelled the.Real text e = cc
bare_spelled the.Str text e = cc
bare_spelled _ text e = refl

abbrev bare_row : Bytes × Terminal → Bool
bare_row row = is_bare row.1

found_bare : (rows : List (Bytes × Terminal)) (text : Bytes) → list_all bare_row rows ≡ true → is_bare (lookup rows text) ≡ true
found_bare [] text all = refl
found_bare (row ∷ rows) text all = go (bytes_eq row.0 text) (bare_row row) refl all (found_bare rows text)
  where
    go : (b c : Bool) → bare_row row ≡ c → (c && list_all bare_row rows) ≡ true → (list_all bare_row rows ≡ true → is_bare (lookup rows text) ≡ true) → is_bare (if b then row.1 else lookup rows text) ≡ true
    go true true e all later = e
    go false true e all later = later all
    go b false e all later = cc

keyword_spelled : (text : Bytes) → is_spelled_as (terminals.keyword text) text ≡ true
unfolding terminals.keyword
keyword_spelled text = bare_spelled (lookup terminals.keywords text) text (found_bare terminals.keywords text refl)

symbol_spelled : (text : Bytes) → is_spelled_as (terminals.symbol text) text ≡ true
unfolding terminals.symbol
symbol_spelled text = bare_spelled (lookup terminals.symbols text) text (found_bare terminals.symbols text refl)

-- ---- numbers and identifiers

digits_begin : (ds rest : Bytes) → 0 < length ds → AllDigits ds → begins_with_digit (ds ++ rest) ≡ true
digits_begin [] rest some all = let never : ⊥ = omega arith in absurd never
digits_begin (d ∷ ds) rest some all = digit_is d all.0

integer_begins : (ds : Bytes) → 0 < length ds → AllDigits ds → begins_with_digit ds ≡ true
integer_begins [] some all = let never : ⊥ = omega arith in absurd never
integer_begins (d ∷ ds) some all = digit_is d all.0

not_past : (n m : ℕ) → (m < n → ⊥) → nat_le n m ≡ true
not_past n m f = go (nat_le n m) refl
  where
    go : (b : Bool) → nat_le n m ≡ b → nat_le n m ≡ true
    go true e = e
    go false e = absurd (f (grind (arith, nat_tests)))

is_identifier_of : (c : ℕ) (cs : Bytes) → is_initial c ≡ true → list_all is_word_byte cs ≡ true → is_keyword (c ∷ cs) ≡ false → (IsPast sort.Identifier (c ∷ cs) → ⊥) → is_identifier (c ∷ cs) ≡ true
is_identifier_of c cs i all plain fits = and_from _ _ (and_from _ _ (not_past (length (c ∷ cs)) 64 fits) (and_from _ _ i all)) (ap not plain)

-- ---- strings

-- a slice that a quote begins and ends
quoted_utf8 : (bytes : Bytes) (start end : ℕ) (b : Bytes) → IsUtf8 bytes → start < end → end ≤ length bytes → slice_range bytes start end ≡ 34 ∷ (b ++ 34 ∷ []) → IsUtf8 (slice_range bytes start end)
quoted_utf8 bytes start end b u order within e =
    let rest : drop start bytes ≡ (34 ∷ (b ++ 34 ∷ [])) ++ drop end bytes = drop_split bytes start end (omega arith) ∙ ap (λ z. z ++ drop end bytes) e in
    let shape : drop start bytes ≡ (34 ∷ b) ++ 34 ∷ drop end bytes = rest ∙ ap (λ z. 34 ∷ z) (append_assoc b (34 ∷ []) (drop end bytes)) in
    let count : length bytes - start ≡ length b + 2 + (length bytes - end) =
    omega (arith, ap length shape, length-drop start bytes, length-drop end bytes, length-append (34 ∷ b) (34 ∷ drop end bytes)) in
    let last : end ≡ start + suc (length b) + 1 = omega arith in
    let first_is : get_or bytes start 0 ≡ 34 = sym (ap (λ n. get_or bytes n 0) (add-zero start)) ∙ sym (get_or-drop start bytes 0 0) ∙ ap (λ z. get_or z 0 0) shape in
    let last_is : get_or bytes (start + suc (length b)) 0 ≡ 34 = sym (get_or-drop start bytes (suc (length b)) 0) ∙ ap (λ z. get_or z (suc (length b)) 0) shape ∙ get_or-append_seam (34 ∷ b) 34 (drop end bytes) 0 in
    let begins = IsCharBoundary-before_ascii bytes start (omega arith) (omega (arith, first_is)) in
    let ends = IsCharBoundary-after_ascii bytes (start + suc (length b)) u (omega arith) (omega (arith, last_is)) in
    IsUtf8-between bytes start end u (omega arith) begins (subst (IsCharBoundary bytes) (sym last) ends)

-- ---- tokens

spelled_by : (bytes : Bytes) (t : Token) (text : Bytes) (sort : TokenSort) → IsUtf8 bytes → LiesWithin bytes t → text_of bytes t ≡ text → Spelling text sort → (IsPast sort text → ⊥) → is_spelled_as (terminal_of sort text) text ≡ true
spelled_by bytes t _ _ u within e (identifier c cs i all plain) fits = is_identifier_of c cs i all plain fits
spelled_by bytes t _ _ u within e (keyword text k) fits = keyword_spelled text
spelled_by bytes t _ _ u within e (integer ds some all) fits = integer_begins ds some all
spelled_by bytes t _ _ u within e (real ds f x some all p q more) fits = digits_begin ds (f ++ x) some all
spelled_by bytes t _ _ u within e (string b h) fits =
    is_utf8-from_IsUtf8 (34 ∷ (b ++ 34 ∷ [])) (subst IsUtf8 e (quoted_utf8 bytes t.span.start t.span.end b u within.order within.within e))
spelled_by bytes t _ _ u within e (symbol c h) fits = symbol_spelled (c ∷ [])
spelled_by bytes t _ _ u within e (pair c d h) fits = symbol_spelled (c ∷ d ∷ [])

each_spelled : (bytes : Bytes) (ts : List Token) → IsUtf8 bytes → LieWithin bytes ts → AreSpelled bytes ts → FitLimits bytes ts → are_spelled (lexemes bytes ts) ≡ true
each_spelled bytes [] u within spelled fits = refl
each_spelled bytes (t ∷ ts) u within spelled fits =
    and_from _ _ (spelled_by bytes t (text_of bytes t) t.sort u (within 0 t (omega arith)) refl (spelled 0 t (omega arith)) (fits 0 t (omega arith)))
    (each_spelled bytes ts u (λ k d less. within (suc k) d (omega (arith, less))) (λ k d less. spelled (suc k) d (omega (arith, less))) (λ k d less. fits (suc k) d (omega (arith, less))))

pub words_spelled : (w : TokenList) → AreTokens w.bytes w.items → are_spelled (word_of w) ≡ true
words_spelled w a = each_spelled w.bytes w.items a.utf8 a.within a.spelled a.fit
