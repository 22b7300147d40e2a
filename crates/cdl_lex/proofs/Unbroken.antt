-- What a text that breaks no rule and its tokens are.
use Rattle.std.proofs.Common.{◌≡◌, inl, inr, ℕ, zero, suc, ◌≤◌, Bool, true, false, List, length, take, refl, sym, ◌∙◌, subst, arith}
use Rattle.std.specs.Str.{IsUtf8, is_utf8, IsValidUpTo}
use Rattle.std.proofs.lemmas.Str.{IsUtf8-from_is_utf8, is_utf8-from_IsUtf8, IsUtf8-nil}
use Rattle.std.proofs.lemmas.List.{take_all}
use Rattle.std.proofs.lemmas.Bool.{cases_lt}
use Rattle.cdl_source.specs.declared.place.Token.{Token}
use Rattle.cdl_lex.specs.Spellings.{Bytes}
use Rattle.cdl_lex.specs.Splits.{Splits}
use Rattle.cdl_lex.specs.Rules.{BreaksNone, not_utf8, too_long, past_limits}
use Rattle.cdl_lex.specs.Texts.{AreTokens}
use Rattle.cdl_lex.proofs.First.{short, fit}
use Rattle.cdl_lex.proofs.Places.{are_tokens}

-- No front of the bytes from this length on is UTF-8.
record NoFront (bytes : Bytes) (n : ℕ) : Type 0 where
  pub none : (m : ℕ) → n ≤ m → IsUtf8 (take m bytes) → ⊥

-- the longest front that is UTF-8
longest_front : (bytes : Bytes) (n : ℕ) → n ≤ length bytes → NoFront bytes n → (at : ℕ) × IsValidUpTo bytes at
longest_front bytes zero l h = absurd (h.none 0 (omega arith) IsUtf8-nil)
longest_front bytes (suc n) l h = go (is_utf8 (take n bytes)) refl (longest_front bytes n (omega arith))
  where
    go : (q : Bool) → is_utf8 (take n bytes) ≡ q → (NoFront bytes n → (at : ℕ) × IsValidUpTo bytes at) → (at : ℕ) × IsValidUpTo bytes at
    go true e shorter = (n, record { short = omega arith; front = IsUtf8-from_is_utf8 (take n bytes) e; longest = λ m less u. h.none m (omega arith) u })
    go false e shorter = shorter (record {
      none = λ m le u.
          elim (cases_lt n m) [
            | inl less ↦ h.none m (omega arith) u
            | inr more ↦
                let same : m ≡ n = omega arith in
                let never : true ≡ false = sym (is_utf8-from_IsUtf8 (take n bytes) (subst (λ z. IsUtf8 (take z bytes)) same u)) ∙ e in
                absurd (cc)
          ];
    })

unbroken_utf8 : (bytes : Bytes) → BreaksNone bytes → IsUtf8 bytes
unbroken_utf8 bytes h = go (is_utf8 bytes) refl
  where
    go : (q : Bool) → is_utf8 bytes ≡ q → IsUtf8 bytes
    go true e = IsUtf8-from_is_utf8 bytes e
    go false e =
        let found = longest_front bytes (length bytes) (omega arith) (record {
          none = λ m le u.
              let never : true ≡ false = sym (is_utf8-from_IsUtf8 bytes (subst IsUtf8 (take_all m bytes le) u)) ∙ e in
              absurd (cc);
        }) in
        absurd (h 2 found.0 (not_utf8 found.1))

pub unbroken_tokens : (bytes : Bytes) (ts : List Token) → BreaksNone bytes → Splits bytes ts → AreTokens bytes ts
unbroken_tokens bytes ts h s =
    are_tokens bytes ts h s (short bytes (λ at x. h 1 at (too_long x))) (unbroken_utf8 bytes h) (fit bytes ts (λ at x. h 4 at (past_limits ts s x)))
