-- A text splits into tokens, or stops at a place.
use Rattle.std.proofs.Common.{◌≡◌, ◌⊎◌, inl, inr, ℕ, zero, suc, ◌+◌, ◌-◌, ◌≤◌, ◌<◌, Bool, true, false, ◌==◌, List, [], ◌∷◌, ◌++◌, length, take, drop, Option, Some, None, refl, sym, ap, ◌∙◌, subst, arith, length-drop}
use Rattle.std.proofs.lemmas.Bool.{eqb-true, eqb-false}
use Rattle.std.specs.List.{prefix_len}
use Rattle.cdl_source.specs.Identifiers.{is_digit, is_initial, is_word_byte}
use Rattle.cdl_source.specs.declared.place.TokenSort.{TokenSort}
use Rattle.cdl_source.specs.declared.place.TokenSort.TheVariants.{Str, Symbol}
use Rattle.cdl_source.specs.declared.place.Token.{Token}
use Rattle.cdl_lex.specs.Spellings.{Bytes, is_blank, is_symbol, is_pair}
use Rattle.cdl_lex.specs.Splits.{is_inner, mark, Splits, NothingBegins}
use Rattle.cdl_lex.specs.Steps.{word_sort, number_sort, tail_len, inside_len, block_len, IsSign, BeginsWith, listed}
use Rattle.cdl_lex.specs.Rules.{IsNoToken}
use Rattle.cdl_lex.proofs.Pieces.{word_begins, number_begins, string_begins, no_string, no_sign, sign_begins, pair_begins, blank_begins, line_begins, block_begins, no_block, slash_begins, piece_some}
use Rattle.cdl_lex.proofs.Continues.{Continues, stays, one_more, whole, stuck}

-- ---- at a place

-- A gap or a token begins the bytes, or nothing does.
abbrev IsDecided : Bytes → Type 0
IsDecided b = ((k : Option TokenSort) × (n : ℕ) × BeginsWith b k n) ⊎ NothingBegins b

decided_string : (c : ℕ) (b : Bytes) → c ≡ 34 → IsDecided (c ∷ b)
decided_string c b q = go (inside_len false b) refl
  where
    go : (o : Option ℕ) → inside_len false b ≡ o → IsDecided (c ∷ b)
    go (Some n) e = inl (Some Str, 1 + n, string_begins (c ∷ b) n (omega arith) q e)
    go None e = inr (no_string (c ∷ b) (omega arith) q e)

decided_slash : (c : ℕ) (b : Bytes) → c ≡ 47 → IsDecided (c ∷ b)
decided_slash c [] q = inl (Some Symbol, 1, slash_begins (c ∷ []) (omega arith) q (λ more. let never : ⊥ = omega arith in absurd never))
decided_slash c (d ∷ b) q = go (d == 47) (d == 42) (block_len b) refl refl refl
  where
    go : (p r : Bool) (o : Option ℕ) → (d == 47) ≡ p → (d == 42) ≡ r → block_len b ≡ o → IsDecided (c ∷ d ∷ b)
    go true r o e f g = inl (None, 2 + prefix_len is_inner b, line_begins (c ∷ d ∷ b) (omega arith) q (eqb-true d 47 e))
    go false true (Some n) e f g = inl (None, 2 + n, block_begins (c ∷ d ∷ b) n (omega arith) q (eqb-true d 42 f) g)
    go false true None e f g = inr (no_block (c ∷ d ∷ b) (omega arith) q (eqb-true d 42 f) g)
    go false false o e f g = inl (Some Symbol, 1, slash_begins (c ∷ d ∷ b) (omega arith) q (λ more. (eqb-false d 47 e, eqb-false d 42 f)))

decided_sign : (c : ℕ) (b : Bytes) → IsSign c → IsDecided (c ∷ b)
decided_sign c b h = go (is_symbol c) b refl
  where
    go : (p : Bool) (b : Bytes) → is_symbol c ≡ p → IsDecided (c ∷ b)
    go false b e = inr (no_sign (c ∷ b) (omega arith) h e)
    go true [] e = inl (Some Symbol, 1, sign_begins (c ∷ []) (omega arith) h e (λ more. let never : ⊥ = omega arith in absurd never))
    go true (d ∷ b) e = by (is_pair c d) refl
      where
        by : (q : Bool) → is_pair c d ≡ q → IsDecided (c ∷ d ∷ b)
        by true f = inl (Some Symbol, 2, pair_begins (c ∷ d ∷ b) (omega arith) h f)
        by false f = inl (Some Symbol, 1, sign_begins (c ∷ d ∷ b) (omega arith) h e (λ more. f))

decided : (c : ℕ) (b : Bytes) → IsDecided (c ∷ b)
decided c b = go (is_blank c) (is_initial c) (is_digit c) (c == 34) (c == 47) refl refl refl refl refl
  where
    go : (p q r s t : Bool) → is_blank c ≡ p → is_initial c ≡ q → is_digit c ≡ r → (c == 34) ≡ s → (c == 47) ≡ t → IsDecided (c ∷ b)
    go true q r s t e f g h i = inl (None, 1, blank_begins (c ∷ b) (omega arith) e)
    go false true r s t e f g h i =
        let n = 1 + prefix_len is_word_byte b in
        inl (Some (word_sort (take n (c ∷ b))), n, word_begins (c ∷ b) n (omega arith) f refl)
    go false false true s t e f g h i =
        let n = prefix_len is_digit (c ∷ b) in
        let m = tail_len (drop n (c ∷ b)) in
        inl (Some (number_sort m), n + m, number_begins (c ∷ b) n m (omega arith) g refl refl)
    go false false false true t e f g h i = decided_string c b (eqb-true c 34 h)
    go false false false false true e f g h i = decided_slash c b (eqb-true c 47 i)
    go false false false false false e f g h i =
        decided_sign c b (record { no_blank = e; no_initial = f; no_digit = g; no_quote = h; no_slash = i })

-- ---- from place to place

-- The text has a splitting, or a place at which none goes on.
abbrev pub IsSettled : Bytes → Type 0
IsSettled bytes = ((ts : List Token) × Splits bytes ts) ⊎ ((at : ℕ) × IsNoToken bytes at)

settled_from : (n : ℕ) (bytes : Bytes) (found : List Token) (at : ℕ) → length bytes ≤ at + n → Continues (mark bytes) (drop (mark bytes) bytes) found at (drop at bytes) → IsSettled bytes
settled_from zero bytes found at l h = inl (found, whole bytes found at h (omega arith))
settled_from (suc n) bytes found at l h = go (drop at bytes) refl (λ found to l h. settled_from n bytes found to l h)
  where
    go : (b : Bytes) → drop at bytes ≡ b
        → ((found : List Token) (to : ℕ) → length bytes ≤ to + n → Continues (mark bytes) (drop (mark bytes) bytes) found to (drop to bytes) → IsSettled bytes) → IsSettled bytes
    go [] e later =
        let left : length bytes - at ≡ 0 = sym (length-drop at bytes) ∙ ap length e in
        inl (found, whole bytes found at h (omega arith))
    go (c ∷ b) e later = elim (decided c b) [
      | inl p ↦
          let piece : BeginsWith (drop at bytes) p.0 p.1 = subst (λ z. BeginsWith z p.0 p.1) (sym e) p.2 in
          let some : 0 < p.1 = piece_some p.2 in
          later (found ++ listed at p.0 p.1) (at + p.1) (omega arith) (one_more (mark bytes) at p.1 (drop (mark bytes) bytes) bytes found p.0 h piece)
      | inr none ↦ inr (at, stuck bytes found at h (subst NothingBegins (sym e) none))
    ]

pub settled : (bytes : Bytes) → IsSettled bytes
settled bytes = settled_from (length bytes) bytes [] (mark bytes) (omega arith) (stays (mark bytes) (drop (mark bytes) bytes))
