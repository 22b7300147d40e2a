-- The first rule that a text breaks.
use Rattle.std.proofs.Common.{◌≡◌, ◌⊎◌, inl, inr, ◌+◌, ◌<◌, ◌≤◌, ℕ, List, length, take, drop, get_or, Some, None, refl, sym, subst, arith}
use Rattle.std.proofs.lemmas.List.{take_all}
use Rattle.std.proofs.lemmas.Bool.{cases_lt}
use Rattle.std.specs.Str.{IsUtf8}
use Rattle.cdl_source.specs.declared.limits.TheConstants.{LONGEST_MODEL}
use Rattle.cdl_source.specs.declared.rules.TheConstants.{MODEL_TOO_LONG, NOT_UTF8, NO_TOKEN, PAST_LIMITS, NESTED_TOO_DEEPLY, EXPRESSION_TOO_LONG, SYNTAX}
use Rattle.cdl_source.specs.declared.place.Token.{Token}
use Rattle.cdl_lex.specs.Spellings.{Bytes}
use Rattle.cdl_lex.specs.Splits.{Splits}
use Rattle.cdl_lex.specs.Found.{IsFirst}
use Rattle.cdl_lex.specs.Rules.{IsTooLong, IsNotUtf8, IsNoToken, HasPastLimits, HasTooDeep, HasTooMany, Breaks, too_long, not_utf8, no_token, past_limits, too_deep, too_many, IsFirstBroken, BreaksNone}
use Rattle.cdl_lex.specs.Texts.{FitLimits}
use Rattle.cdl_lex.proofs.AtTokens.{cut_at}
use Rattle.cdl_lex.proofs.Continues.{splits_once, splits_not_stuck, stuck_once}

-- ---- what it is to break the rule of a number

breaks_1 : {bytes : Bytes} {r p : ℕ} → Breaks bytes r p → r ≡ MODEL_TOO_LONG → IsTooLong bytes p
breaks_1 (too_long x) e = x
breaks_1 (not_utf8 x) e = absurd (omega arith)
breaks_1 (no_token x) e = absurd (omega arith)
breaks_1 (past_limits ts s x) e = absurd (omega arith)
breaks_1 (too_deep ts s x) e = absurd (omega arith)
breaks_1 (too_many ts s x) e = absurd (omega arith)

breaks_2 : {bytes : Bytes} {r p : ℕ} → Breaks bytes r p → r ≡ NOT_UTF8 → IsNotUtf8 bytes p
breaks_2 (too_long x) e = absurd (omega arith)
breaks_2 (not_utf8 x) e = x
breaks_2 (no_token x) e = absurd (omega arith)
breaks_2 (past_limits ts s x) e = absurd (omega arith)
breaks_2 (too_deep ts s x) e = absurd (omega arith)
breaks_2 (too_many ts s x) e = absurd (omega arith)

breaks_3 : {bytes : Bytes} {r p : ℕ} → Breaks bytes r p → r ≡ NO_TOKEN → IsNoToken bytes p
breaks_3 (too_long x) e = absurd (omega arith)
breaks_3 (not_utf8 x) e = absurd (omega arith)
breaks_3 (no_token x) e = x
breaks_3 (past_limits ts s x) e = absurd (omega arith)
breaks_3 (too_deep ts s x) e = absurd (omega arith)
breaks_3 (too_many ts s x) e = absurd (omega arith)

breaks_4 : {bytes : Bytes} {r p : ℕ} (us : List Token) → Splits bytes us → Breaks bytes r p → r ≡ PAST_LIMITS → HasPastLimits bytes us p
breaks_4 us h (too_long x) e = absurd (omega arith)
breaks_4 us h (not_utf8 x) e = absurd (omega arith)
breaks_4 us h (no_token x) e = absurd (omega arith)
breaks_4 {bytes} {p = p} us h (past_limits ts s x) e = subst (λ z. HasPastLimits bytes z p) (splits_once bytes us ts h s) x
breaks_4 us h (too_deep ts s x) e = absurd (omega arith)
breaks_4 us h (too_many ts s x) e = absurd (omega arith)

breaks_5 : {bytes : Bytes} {r p : ℕ} (us : List Token) → Splits bytes us → Breaks bytes r p → r ≡ NESTED_TOO_DEEPLY → HasTooDeep bytes us p
breaks_5 us h (too_long x) e = absurd (omega arith)
breaks_5 us h (not_utf8 x) e = absurd (omega arith)
breaks_5 us h (no_token x) e = absurd (omega arith)
breaks_5 us h (past_limits ts s x) e = absurd (omega arith)
breaks_5 {bytes} {p = p} us h (too_deep ts s x) e = subst (λ z. HasTooDeep bytes z p) (splits_once bytes us ts h s) x
breaks_5 us h (too_many ts s x) e = absurd (omega arith)

breaks_6 : {bytes : Bytes} {r p : ℕ} (us : List Token) → Splits bytes us → Breaks bytes r p → r ≡ EXPRESSION_TOO_LONG → HasTooMany bytes us p
breaks_6 us h (too_long x) e = absurd (omega arith)
breaks_6 us h (not_utf8 x) e = absurd (omega arith)
breaks_6 us h (no_token x) e = absurd (omega arith)
breaks_6 us h (past_limits ts s x) e = absurd (omega arith)
breaks_6 us h (too_deep ts s x) e = absurd (omega arith)
breaks_6 {bytes} {p = p} us h (too_many ts s x) e = subst (λ z. HasTooMany bytes z p) (splits_once bytes us ts h s) x

-- ---- no rule below a number is broken

pub record NoneBelow (bytes : Bytes) (rule : ℕ) : Type 0 where
  pub none : (lower at : ℕ) → lower < rule → Breaks bytes lower at → ⊥

least : {bytes : Bytes} {r p : ℕ} → Breaks bytes r p → (1 ≤ r) × (r < SYNTAX)
least (too_long x) = (omega arith, omega arith)
least (not_utf8 x) = (omega arith, omega arith)
least (no_token x) = (omega arith, omega arith)
least (past_limits ts s x) = (omega arith, omega arith)
least (too_deep ts s x) = (omega arith, omega arith)
least (too_many ts s x) = (omega arith, omega arith)

pub below_1 : (bytes : Bytes) → NoneBelow bytes MODEL_TOO_LONG
below_1 bytes = record { none = λ lower at l b. let low = (least b).0 in absurd (omega arith) }

-- one number more
step : (bytes : Bytes) (rule : ℕ) → NoneBelow bytes rule → ((at : ℕ) → Breaks bytes rule at → ⊥) → NoneBelow bytes (rule + 1)
step bytes rule h f = record { none = λ lower at l b. go lower at (cases_lt lower rule) l b }
  where
    go : (lower at : ℕ) → (lower < rule) ⊎ (rule ≤ lower) → lower < rule + 1 → Breaks bytes lower at → ⊥
    go lower at (inl e) l b = h.none lower at e b
    go lower at (inr e) l b = let same : lower ≡ rule = omega arith in f at (subst (λ z. Breaks bytes z at) same b)

pub below_2 : (bytes : Bytes) → IsFirst (IsTooLong bytes) None → NoneBelow bytes NOT_UTF8
below_2 bytes h = step bytes MODEL_TOO_LONG (below_1 bytes) (λ at b. h at (breaks_1 b refl))

pub below_3 : (bytes : Bytes) → NoneBelow bytes NOT_UTF8 → IsFirst (IsNotUtf8 bytes) None → NoneBelow bytes NO_TOKEN
below_3 bytes n h = step bytes NOT_UTF8 n (λ at b. h at (breaks_2 b refl))

pub below_4 : (bytes : Bytes) (ts : List Token) → NoneBelow bytes NO_TOKEN → Splits bytes ts → NoneBelow bytes PAST_LIMITS
below_4 bytes ts n s = step bytes NO_TOKEN n (λ at b. splits_not_stuck bytes ts at s (breaks_3 b refl))

pub below_5 : (bytes : Bytes) (ts : List Token) → NoneBelow bytes PAST_LIMITS → Splits bytes ts → IsFirst (HasPastLimits bytes ts) None → NoneBelow bytes NESTED_TOO_DEEPLY
below_5 bytes ts n s h = step bytes PAST_LIMITS n (λ at b. h at (breaks_4 ts s b refl))

pub below_6 : (bytes : Bytes) (ts : List Token) → NoneBelow bytes NESTED_TOO_DEEPLY → Splits bytes ts → IsFirst (HasTooDeep bytes ts) None → NoneBelow bytes EXPRESSION_TOO_LONG
below_6 bytes ts n s h = step bytes NESTED_TOO_DEEPLY n (λ at b. h at (breaks_5 ts s b refl))

pub below_7 : (bytes : Bytes) (ts : List Token) → NoneBelow bytes EXPRESSION_TOO_LONG → Splits bytes ts → IsFirst (HasTooMany bytes ts) None → NoneBelow bytes SYNTAX
below_7 bytes ts n s h = step bytes EXPRESSION_TOO_LONG n (λ at b. h at (breaks_6 ts s b refl))

pub breaks_none : (bytes : Bytes) → NoneBelow bytes SYNTAX → BreaksNone bytes
breaks_none bytes n rule at b = n.none rule at (least b).1 b

-- ---- the first that is broken

pub first_1 : (bytes : Bytes) (at : ℕ) → IsFirst (IsTooLong bytes) (Some at) → IsFirstBroken bytes MODEL_TOO_LONG at
first_1 bytes at h = record { broken = too_long h.0; lowest = (below_1 bytes).none; earliest = λ e l b. h.1 e l (breaks_1 b refl) }

pub first_2 : (bytes : Bytes) (at : ℕ) → NoneBelow bytes NOT_UTF8 → IsFirst (IsNotUtf8 bytes) (Some at) → IsFirstBroken bytes NOT_UTF8 at
first_2 bytes at n h = record { broken = not_utf8 h.0; lowest = n.none; earliest = λ e l b. h.1 e l (breaks_2 b refl) }

pub first_3 : (bytes : Bytes) (at : ℕ) → NoneBelow bytes NO_TOKEN → IsNoToken bytes at → IsFirstBroken bytes NO_TOKEN at
first_3 bytes at n h =
    record { broken = no_token h; lowest = n.none; earliest = λ e l b. let same : at ≡ e = stuck_once bytes at e h (breaks_3 b refl) in absurd (omega arith) }

pub first_4 : (bytes : Bytes) (ts : List Token) (at : ℕ) → NoneBelow bytes PAST_LIMITS → Splits bytes ts → IsFirst (HasPastLimits bytes ts) (Some at) → IsFirstBroken bytes PAST_LIMITS at
first_4 bytes ts at n s h = record { broken = past_limits ts s h.0; lowest = n.none; earliest = λ e l b. h.1 e l (breaks_4 ts s b refl) }

pub first_5 : (bytes : Bytes) (ts : List Token) (at : ℕ) → NoneBelow bytes NESTED_TOO_DEEPLY → Splits bytes ts → IsFirst (HasTooDeep bytes ts) (Some at) → IsFirstBroken bytes NESTED_TOO_DEEPLY at
first_5 bytes ts at n s h = record { broken = too_deep ts s h.0; lowest = n.none; earliest = λ e l b. h.1 e l (breaks_5 ts s b refl) }

pub first_6 : (bytes : Bytes) (ts : List Token) (at : ℕ) → NoneBelow bytes EXPRESSION_TOO_LONG → Splits bytes ts → IsFirst (HasTooMany bytes ts) (Some at) → IsFirstBroken bytes EXPRESSION_TOO_LONG at
first_6 bytes ts at n s h = record { broken = too_many ts s h.0; lowest = n.none; earliest = λ e l b. h.1 e l (breaks_6 ts s b refl) }

-- ---- what the code needs besides

pub short : (bytes : Bytes) → IsFirst (IsTooLong bytes) None → length bytes ≤ LONGEST_MODEL
short bytes h = elim (cases_lt LONGEST_MODEL (length bytes)) [ inl l ↦ absurd (h LONGEST_MODEL (record { long = l; place = refl })) | inr l ↦ l ]

pub fit : (bytes : Bytes) (ts : List Token) → IsFirst (HasPastLimits bytes ts) None → FitLimits bytes ts
fit bytes ts none k d l p =
    none (get_or ts k d).span.start (record { before = take k ts; token = get_or ts k d; after = drop (k + 1) ts; tokens_are = cut_at ts k d l; place = refl; breaks = p })

pub first_not_utf8 : (bytes : Bytes) (at : ℕ) → IsNotUtf8 bytes at → IsFirst (IsNotUtf8 bytes) (Some at)
first_not_utf8 bytes at h = (h, λ earlier l e. e.longest at l h.front)

pub is_utf8 : (bytes : Bytes) → IsUtf8 bytes → IsFirst (IsNotUtf8 bytes) None
is_utf8 bytes u at h = h.longest (length bytes) h.short (subst IsUtf8 (sym (take_all (length bytes) bytes (omega arith))) u)
