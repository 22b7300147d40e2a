-- Where the tokens of a splitting lie, and what their texts are.
use Rattle.std.proofs.Common.{◌≡◌, Bool, true, false, if◌then◌else◌, ℕ, ◌+◌, ◌-◌, ◌≤◌, ◌<◌, List, [], ◌∷◌, ◌++◌, length, take, drop, arith, refl, sym, ap, ◌∙◌, subst, length-append, length-drop}
use Rattle.cdl_source.specs.declared.limits.TheConstants.{LONGEST_MODEL}
use Rattle.std.proofs.lemmas.List.{drop-drop, length-take}
use Rattle.std.proofs.lemmas.Slice.Eq.{bytes_eq-Decides}
use Rattle.std.specs.Str.{bytes_eq, IsUtf8}
use Rattle.std.proofs.lemmas.List.Elements.{All-nil, All-cons}
use Rattle.std.proofs.Math.Seq.{take-append_seam, drop-append_seam}
use Rattle.cdl_source.specs.declared.place.TokenSort.{TokenSort}
use Rattle.cdl_source.specs.declared.place.Token.{Token}
use Rattle.cdl_lex.specs.TokenList.{text_of, LiesWithin, LieWithin, RiseFrom, Rise}
use Rattle.cdl_lex.specs.Spellings.{Bytes, Spelling}
use Rattle.cdl_lex.specs.Splits.{token, Reaches, here, gap_then, token_then, mark, Splits}
use Rattle.cdl_lex.specs.Texts.{IsSpelled, AreSpelled, FitLimits, AreTokens}
use Rattle.cdl_lex.specs.Rules.{BreaksNone}
use Rattle.cdl_lex.proofs.Spelled.{not_empty}

some : (s : Bytes) → (s ≡ [] → ⊥) → 0 < length s
some [] h = absurd (h refl)
some (c ∷ s) h = omega arith

weaker : (from to : ℕ) (ts : List Token) → from ≤ to → RiseFrom to ts → RiseFrom from ts
weaker from to [] le h = tt
weaker from to (t ∷ ts) le h = let first : to ≤ t.span.start = h.0 in (omega arith, h.1, h.2)

pub rise : {at : ℕ} {b r : Bytes} {ts : List Token} → Reaches at b ts r → RiseFrom at ts
rise (here at b) = tt
rise {at} {ts = ts} (gap_then {s = s} g h) = weaker at (at + length s) ts (omega arith) (rise h)
rise {at} (token_then {s = s} t h) = let more : 0 < length s = some s (not_empty t.spelling) in (omega arith, omega arith, rise h)

-- the bytes from `at` on are b
text_is : (bytes : Bytes) (at : ℕ) (s b : Bytes) (k : TokenSort) → drop at bytes ≡ s ++ b → text_of bytes (token k at (length s)) ≡ s
text_is bytes at s b k e =
    let size : (at + length s) - at ≡ length s = omega arith in
    ap (λ n. take n (drop at bytes)) size ∙ ap (take (length s)) e ∙ take-append_seam s b

behind : (bytes : Bytes) (at : ℕ) (s b : Bytes) → drop at bytes ≡ s ++ b → drop (at + length s) bytes ≡ b
behind bytes at s b e = sym (drop-drop (length s) at bytes) ∙ ap (drop (length s)) e ∙ drop-append_seam s b

spelled : {at : ℕ} {b r : Bytes} {ts : List Token} → Reaches at b ts r → (bytes : Bytes) → drop at bytes ≡ b → AreSpelled bytes ts
spelled (here at b) bytes e = All-nil (IsSpelled bytes)
spelled {at} (gap_then {s = s} {b = b} g h) bytes e = spelled h bytes (behind bytes at s b e)
spelled {at} (token_then {s = s} {b = b} {ts = ts} {k = k} t h) bytes e =
    All-cons (IsSpelled bytes) (token k at (length s)) ts (subst (λ z. Spelling z k) (sym (text_is bytes at s b k e)) t.spelling) (spelled h bytes (behind bytes at s b e))

lie : {at : ℕ} {b r : Bytes} {ts : List Token} → Reaches at b ts r → (bytes : Bytes) → at + length b ≤ length bytes → LieWithin bytes ts
lie (here at b) bytes fits = All-nil (LiesWithin bytes)
lie (gap_then {s = s} {b = b} g h) bytes fits = let both = length-append s b in lie h bytes (omega arith)
lie {at} (token_then {s = s} {b = b} {ts = ts} {k = k} t h) bytes fits =
    let both = length-append s b in
    let more : 0 < length s = some s (not_empty t.spelling) in
    All-cons (LiesWithin bytes) (token k at (length s)) ts (record { order = omega arith; within = omega arith }) (lie h bytes (omega arith))

pub tokens_rise : (bytes : Bytes) (ts : List Token) → Splits bytes ts → Rise ts
tokens_rise bytes ts h = weaker 0 (mark bytes) ts (omega arith) (rise h)

pub tokens_spelled : (bytes : Bytes) (ts : List Token) → Splits bytes ts → AreSpelled bytes ts
tokens_spelled bytes ts h = spelled h bytes refl

mark_within : (bytes : Bytes) → mark bytes ≤ length bytes
mark_within bytes = go (bytes_eq (take 3 bytes) (239 ∷ 187 ∷ 191 ∷ [])) refl
  where
    go : (q : Bool) → bytes_eq (take 3 bytes) (239 ∷ 187 ∷ 191 ∷ []) ≡ q → (if q then 3 else 0) ≤ length bytes
    go true e =
        let three : length (take 3 bytes) ≡ 3 = ap length ((bytes_eq-Decides (take 3 bytes) (239 ∷ 187 ∷ 191 ∷ [])).0 e) in
        let least = length-take 3 bytes in omega arith
    go false e = omega arith

pub tokens_lie : (bytes : Bytes) (ts : List Token) → Splits bytes ts → LieWithin bytes ts
tokens_lie bytes ts h = let left = length-drop (mark bytes) bytes in let most = mark_within bytes in lie h bytes (omega arith)

-- each token has a byte of its own
few : {at : ℕ} {b r : Bytes} {ts : List Token} → Reaches at b ts r → length ts ≤ length b
few (here at b) = omega arith
few (gap_then {s = s} {b = b} g h) = let both = length-append s b in let less = few h in omega arith
few (token_then {s = s} {b = b} t h) =
    let both = length-append s b in
    let more : 0 < length s = some s (not_empty t.spelling) in
    let less = few h in
    omega arith

pub tokens_few : (bytes : Bytes) (ts : List Token) → Splits bytes ts → length ts ≤ length bytes
tokens_few bytes ts h = let less = few h in let left = length-drop (mark bytes) bytes in omega arith

pub are_tokens : (bytes : Bytes) (ts : List Token) → BreaksNone bytes → Splits bytes ts → length bytes ≤ LONGEST_MODEL → IsUtf8 bytes → FitLimits bytes ts → AreTokens bytes ts
are_tokens bytes ts none splits short utf8 fit = record {
  unbroken = none;
  splits = splits;
  short = short;
  utf8 = utf8;
  few = tokens_few bytes ts splits;
  within = tokens_lie bytes ts splits;
  rise = tokens_rise bytes ts splits;
  spelled = tokens_spelled bytes ts splits;
  fit = fit;
}
