-- How the splittings of a text go on from a place.
use Rattle.std.proofs.Common.{◌≡◌, inl, inr, ℕ, ◌+◌, ◌-◌, ◌≤◌, ◌<◌, List, [], ◌∷◌, ◌++◌, length, drop, Option, refl, sym, ap, ◌∙◌, subst, arith, append_assoc, append-nil, length-drop}
use Rattle.std.proofs.lemmas.Bool.{cases_lt}
use Rattle.std.proofs.lemmas.List.{drop-drop, drop_all}
use Rattle.std.proofs.Math.Seq.{drop-append_seam}
use Rattle.cdl_source.specs.declared.place.TokenSort.{TokenSort}
use Rattle.cdl_source.specs.declared.place.Token.{Token}
use Rattle.cdl_lex.specs.Spellings.{Bytes}
use Rattle.cdl_lex.specs.Splits.{IsToken, IsGap, blank, line, block, token, Reaches, here, gap_then, token_then, mark, Begins, Splits, NothingBegins}
use Rattle.cdl_lex.specs.Steps.{BeginsWith, with_gap, with_token, listed}
use Rattle.cdl_lex.specs.Rules.{IsNoToken}
use Rattle.cdl_lex.proofs.Spelled.{not_empty}
use Rattle.cdl_lex.proofs.Gaps.{one_gap, one_token, not_both}

-- What is reached from c, with these tokens in front, is reached from b.
pub record Continues (at : ℕ) (b : Bytes) (front : List Token) (to : ℕ) (c : Bytes) : Type 0 where
  pub reaches : (ts : List Token) (r : Bytes) → Reaches to c ts r → Reaches at b (front ++ ts) r

pub stays : (at : ℕ) (b : Bytes) → Continues at b [] at b
stays at b = record { reaches = λ ts r h. h }

goes_on : {at to end : ℕ} {b c d : Bytes} {front more : List Token} → Continues at b front to c → Continues to c more end d → Continues at b (front ++ more) end d
goes_on {at = at} {b = b} {front = front} {more = more} f g = record {
  reaches = λ ts r h. subst (λ z. Reaches at b z r) (sym (append_assoc front more ts)) (f.reaches (more ++ ts) r (g.reaches ts r h));
}

piece_continues : (at : ℕ) (b : Bytes) (k : Option TokenSort) (n : ℕ) → BeginsWith b k n → Continues at b (listed at k n) (at + n) (drop n b)
piece_continues at _ _ _ (with_gap s b g) =
    subst (Continues at (s ++ b) [] (at + length s)) (sym (drop-append_seam s b)) (record { reaches = λ ts r h. gap_then g h })
piece_continues at _ _ _ (with_token s b {k} t) =
    subst (Continues at (s ++ b) (token k at (length s) ∷ []) (at + length s)) (sym (drop-append_seam s b)) (record { reaches = λ ts r h. token_then t h })

-- one piece more
pub one_more : (from at n : ℕ) (b bytes : Bytes) (found : List Token) (k : Option TokenSort) → Continues from b found at (drop at bytes) → BeginsWith (drop at bytes) k n
    → Continues from b (found ++ listed at k n) (at + n) (drop (at + n) bytes)
one_more from at n b bytes found k h p =
    goes_on h (subst (Continues at (drop at bytes) (listed at k n) (at + n)) (drop-drop n at bytes) (piece_continues at (drop at bytes) k n p))

pub whole : (bytes : Bytes) (found : List Token) (at : ℕ) → Continues (mark bytes) (drop (mark bytes) bytes) found at (drop at bytes) → length bytes ≤ at → Splits bytes found
whole bytes found at h end =
    let none : drop at bytes ≡ [] = drop_all at bytes end in
    subst (λ z. Begins bytes z []) (append-nil found) (h.reaches [] [] (subst (λ z. Reaches at z [] []) (sym none) (here at [])))

pub stuck : (bytes : Bytes) (found : List Token) (at : ℕ) → Continues (mark bytes) (drop (mark bytes) bytes) found at (drop at bytes) → NothingBegins (drop at bytes) → IsNoToken bytes at
stuck bytes found at h none =
    record { tokens = found; reached = subst (λ z. Begins bytes z (drop at bytes)) (append-nil found) (h.reaches [] (drop at bytes) (here at (drop at bytes))); nothing = none }

-- ---- one splitting

-- No gap and no token begins the bytes.
pub record Halts (r : Bytes) : Type 0 where
  pub no_gap : (s b : Bytes) → r ≡ s ++ b → IsGap s b → ⊥
  pub no_token : (s b : Bytes) (k : TokenSort) → r ≡ s ++ b → IsToken s k b → ⊥

gap_has_bytes : {s b : Bytes} → IsGap s b → s ≡ [] → ⊥
gap_has_bytes (blank c b f) e = cc
gap_has_bytes (line s b all ends) e = cc
gap_has_bytes (block s b h) e = cc

no_front : (s b : Bytes) → [] ≡ s ++ b → s ≡ []
no_front [] b e = refl
no_front (c ∷ s) b e = cc

pub end_halts : Halts []
end_halts = record { no_gap = λ s b e g. gap_has_bytes g (no_front s b e); no_token = λ s b k e t. not_empty t.spelling (no_front s b e) }

pub nothing_halts : {r : Bytes} → NothingBegins r → Halts r
nothing_halts n = record { no_gap = n.no_gap; no_token = n.no_token }

pub reaches_once : {at : ℕ} {b r q : Bytes} {ts us : List Token} → Reaches at b ts r → Halts r → Reaches at b us q → Halts q → (us ≡ ts) × (q ≡ r)
reaches_once (here at b) h x g = go x refl
  where
    go : {w q : Bytes} {us : List Token} → Reaches at w us q → w ≡ b → (us ≡ []) × (q ≡ b)
    go (here _ _) e = (refl, e)
    go (gap_then {s = s} {b = c} p y) e = absurd (h.no_gap s c (sym e) p)
    go (token_then {s = s} {b = c} {k = k} p y) e = absurd (h.no_token s c k (sym e) p)
reaches_once {at} {r = r} {q = q} {ts = ts} (gap_then {s = s} {b = b} p y) h x g = go x refl g (λ us q z f. reaches_once y h z f)
  where
    go : {w q : Bytes} {us : List Token} → Reaches at w us q → w ≡ s ++ b → Halts q
        → ((us : List Token) (q : Bytes) → Reaches (at + length s) b us q → Halts q → (us ≡ ts) × (q ≡ r)) → (us ≡ ts) × (q ≡ r)
    go (here _ _) e g again = absurd (g.no_gap s b e p)
    go (gap_then {s = t} {b = c} {r = q} {ts = us} o z) e g again =
        let one = one_gap t c s b o p e in
        again us q (subst (λ n. Reaches (at + length n) b us q) one.0 (subst (λ n. Reaches (at + length t) n us q) one.1 z)) g
    go (token_then {s = t} {b = c} {k = k} o z) e g again = absurd (not_both s b t c k p o (sym e))
reaches_once {at} {r = r} {q = q} (token_then {s = s} {b = b} {ts = ts} {k = k} p y) h x g = go x refl g (λ us q z f. reaches_once y h z f)
  where
    go : {w q : Bytes} {us : List Token} → Reaches at w us q → w ≡ s ++ b → Halts q
        → ((us : List Token) (q : Bytes) → Reaches (at + length s) b us q → Halts q → (us ≡ ts) × (q ≡ r)) → (us ≡ token k at (length s) ∷ ts) × (q ≡ r)
    go (here _ _) e g again = absurd (g.no_token s b k e p)
    go (gap_then {s = t} {b = c} o z) e g again = absurd (not_both t c s b k o p e)
    go (token_then {s = t} {b = c} {r = q} {ts = us} {k = j} o z) e g again =
        let one = one_token t c s b j k o p e in
        let more = again us q (subst (λ n. Reaches (at + length n) b us q) one.0 (subst (λ n. Reaches (at + length t) n us q) one.1 z)) g in
        (ap (λ n. token n at (length t) ∷ us) one.2 ∙ ap (λ n. token k at (length n) ∷ us) one.0 ∙ ap (λ n. token k at (length s) ∷ n) more.0, more.1)

pub splits_once : (bytes : Bytes) (ts us : List Token) → Splits bytes ts → Splits bytes us → us ≡ ts
splits_once bytes ts us x y = (reaches_once x end_halts y end_halts).0

-- a text that splits has a token or a gap at each place that is reached
pub splits_not_stuck : (bytes : Bytes) (ts : List Token) (at : ℕ) → Splits bytes ts → IsNoToken bytes at → ⊥
splits_not_stuck bytes ts at x n = n.nothing.more (reaches_once x end_halts n.reached (nothing_halts n.nothing)).1

drop_some : (bytes : Bytes) (at : ℕ) → (drop at bytes ≡ [] → ⊥) → at < length bytes
drop_some bytes at h = elim (cases_lt at (length bytes)) [ inl e ↦ e | inr e ↦ absurd (h (drop_all at bytes e)) ]

pub stuck_within : (bytes : Bytes) (at : ℕ) → IsNoToken bytes at → at < length bytes
stuck_within bytes at n = drop_some bytes at n.nothing.more

pub stuck_once : (bytes : Bytes) (at to : ℕ) → IsNoToken bytes at → IsNoToken bytes to → at ≡ to
stuck_once bytes at to x y =
    let same : drop to bytes ≡ drop at bytes = (reaches_once x.reached (nothing_halts x.nothing) y.reached (nothing_halts y.nothing)).1 in
    let sizes : length bytes - to ≡ length bytes - at = sym (length-drop to bytes) ∙ ap length same ∙ length-drop at bytes in
    let left = stuck_within bytes at x in
    let right = stuck_within bytes to y in
    omega arith
