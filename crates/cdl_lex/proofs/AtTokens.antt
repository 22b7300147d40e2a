-- The first token with a property, and its first byte.
use Rattle.std.proofs.Common.{◌≡◌, ℕ, ◌+◌, ◌≤◌, ◌<◌, List, [], ◌∷◌, ◌++◌, length, take, drop, get_or, arith, add-one, drop-cons, refl, sym, ap, ◌∙◌, subst}
use Rattle.std.proofs.lemmas.List.{take-append-drop, take_all, take_more}
use Rattle.cdl_source.specs.declared.place.Token.{Token}
use Rattle.cdl_lex.specs.TokenList.{RiseFrom, Rise}
use Rattle.cdl_lex.specs.Rules.{AtToken}

-- No token of the list has the property, behind those before it.
pub record NoneAt (P : List Token → Token → Type 0) (ts : List Token) : Type 0 where
  pub none : (before after : List Token) (t : Token) → ts ≡ before ++ t ∷ after → P before t → ⊥

pub none_yet : (P : List Token → Token → Type 0) → NoneAt P []
none_yet P = record { none = λ before after t e p. no_split before after t e }
  where
    no_split : (before after : List Token) (t : Token) → [] ≡ before ++ t ∷ after → ⊥
    no_split [] after t e = cc
    no_split (u ∷ before) after t e = cc

-- Where a token stands in a list with one token more behind: it is that one, or it stands in the list.
data Stands : List Token → Token → List Token → Token → List Token → Type 0 where
  last : (xs : List Token) (t : Token) → Stands xs t xs t []
  within : (before after : List Token) (t u : Token) → Stands (before ++ u ∷ after) t before u (after ++ t ∷ [])

in_front : (x : Token) {xs : List Token} {t : Token} {before : List Token} {u : Token} {after : List Token} → Stands xs t before u after → Stands (x ∷ xs) t (x ∷ before) u after
in_front x (last xs t) = last (x ∷ xs) t
in_front x (within before after t u) = within (x ∷ before) after t u

alone : (u : Token) (after : List Token) (t : Token) (before : List Token) → t ∷ [] ≡ before ++ u ∷ after → Stands [] t before u after
alone u after t [] e =
    let same : t ≡ u = cc in
    let none : [] ≡ after = cc in
    subst (λ z. Stands [] t [] z after) same (subst (Stands [] t [] t) none (last [] t))
alone u after t (v ∷ before) e = absurd (none_left before (tail_of v (before ++ u ∷ after) e))
  where
    tail_of : (v : Token) (xs : List Token) → t ∷ [] ≡ v ∷ xs → [] ≡ xs
    tail_of v xs f = cc

    none_left : (before : List Token) → [] ≡ before ++ u ∷ after → ⊥
    none_left [] f = cc
    none_left (w ∷ before) f = cc

stands : (xs : List Token) (t : Token) (before : List Token) (u : Token) (after : List Token) → xs ++ t ∷ [] ≡ before ++ u ∷ after → Stands xs t before u after
stands [] t before u after e = alone u after t before e
stands (x ∷ xs) t [] u after e =
    let same : x ≡ u = cc in
    let rest : xs ++ t ∷ [] ≡ after = cc in
    subst (λ z. Stands (x ∷ xs) t [] z after) same (subst (λ z. Stands (x ∷ xs) t [] x z) rest (within [] xs t x))
stands (x ∷ xs) t (y ∷ before) u after e =
    let same : x ≡ y = cc in
    let rest : xs ++ t ∷ [] ≡ before ++ u ∷ after = cc in
    subst (λ z. Stands (x ∷ xs) t (z ∷ before) u after) same (in_front x (stands xs t before u after rest))

pub one_more : (P : List Token → Token → Type 0) (xs : List Token) (t : Token) → NoneAt P xs → (P xs t → ⊥) → NoneAt P (xs ++ t ∷ [])
one_more P xs t h f = record { none = λ before after u e p. go (stands xs t before u after e) h f p }
  where
    go : {xs : List Token} {t : Token} {before : List Token} {u : Token} {after : List Token} → Stands xs t before u after → NoneAt P xs → (P xs t → ⊥) → P before u → ⊥
    go (last xs t) h f p = f p
    go (within before after t u) h f p = h.none before after u refl p

-- ---- by the first byte

-- the tokens behind one begin behind it
rises_from : (from : ℕ) (before : List Token) (t : Token) (after : List Token) → RiseFrom from (before ++ t ∷ after) → from ≤ t.span.start
rises_from from [] t after h = h.0
rises_from from (u ∷ before) t after h =
    let first : from ≤ u.span.start = h.0 in
    let size : u.span.start < u.span.end = h.1 in
    let more : u.span.end ≤ t.span.start = rises_from u.span.end before t after h.2 in
    omega arith

-- Of two tokens of a list, the one that begins before the other stands before it.
pub no_earlier : (P : List Token → Token → Type 0) (from : ℕ) (xs ys : List Token) (t : Token) (front back : List Token) (u : Token)
    → RiseFrom from (xs ++ t ∷ ys) → xs ++ t ∷ ys ≡ front ++ u ∷ back → u.span.start < t.span.start → (mid : List Token) × (xs ≡ front ++ u ∷ mid)
no_earlier P from [] ys t [] back u h e l = let same : t ≡ u = cc in let equal : t.span.start ≡ u.span.start = ap (λ z. z.span.start) same in absurd (omega arith)
no_earlier P from [] ys t (v ∷ front) back u h e l =
    let same : t ≡ v = cc in
    let rest : ys ≡ front ++ u ∷ back = cc in
    let order : t.span.start < t.span.end = h.1 in
    let more : t.span.end ≤ u.span.start = rises_from t.span.end front u back (subst (RiseFrom t.span.end) rest h.2) in
    absurd (omega arith)
no_earlier P from (x ∷ xs) ys t [] back u h e l = let same : x ≡ u = cc in (xs, ap (λ z. z ∷ xs) same)
no_earlier P from (x ∷ xs) ys t (v ∷ front) back u h e l =
    let same : x ≡ v = cc in
    let rest : xs ++ t ∷ ys ≡ front ++ u ∷ back = cc in
    let more = no_earlier P x.span.end xs ys t front back u h.2 rest l in
    (more.0, ap (λ z. z ∷ xs) same ∙ ap (λ z. v ∷ z) more.1)

-- The first token with the property begins at the first byte.
pub first_at : (P : List Token → Token → Type 0) (xs ys ts : List Token) (t : Token) → Rise ts → ts ≡ xs ++ t ∷ ys → NoneAt P xs → P xs t
    → AtToken P ts t.span.start × ((earlier : ℕ) → earlier < t.span.start → AtToken P ts earlier → ⊥)
first_at P xs ys ts t h e none p = (
  record { before = xs; token = t; after = ys; tokens_are = e; place = refl; breaks = p },
  λ earlier l a. no_first earlier l a,
)
  where
    no_first : (earlier : ℕ) → earlier < t.span.start → AtToken P ts earlier → ⊥
    no_first earlier l a =
        let place : earlier ≡ a.token.span.start = a.place in
        let mid = no_earlier P 0 xs ys t a.before a.after a.token (subst Rise e h) (sym e ∙ a.tokens_are) (omega arith) in
        none.none a.before mid.0 a.token mid.1 a.breaks

pub none_at : (P : List Token → Token → Type 0) (ts : List Token) → NoneAt P ts → (at : ℕ) → AtToken P ts at → ⊥
none_at P ts h at a = h.none a.before a.after a.token a.tokens_are a.breaks

-- ---- by the number of the token

pub cut_at : (ts : List Token) (i : ℕ) (d : Token) → i < length ts → ts ≡ take i ts ++ get_or ts i d ∷ drop (i + 1) ts
cut_at ts i d l = sym (take-append-drop i ts) ∙ ap (λ z. take i ts ++ z) (rw add-one (drop-cons ts i d l))

pub none_more : (P : List Token → Token → Type 0) (ts : List Token) (i : ℕ) (d : Token) → i < length ts → NoneAt P (take i ts) → (P (take i ts) (get_or ts i d) → ⊥)
    → NoneAt P (take (i + 1) ts)
none_more P ts i d l h f = subst (NoneAt P) (sym (take_more ts i d l)) (one_more P (take i ts) (get_or ts i d) h f)

pub found_at : (P : List Token → Token → Type 0) (ts : List Token) (i : ℕ) (d : Token) → Rise ts → i < length ts → NoneAt P (take i ts) → P (take i ts) (get_or ts i d)
    → AtToken P ts (get_or ts i d).span.start × ((earlier : ℕ) → earlier < (get_or ts i d).span.start → AtToken P ts earlier → ⊥)
found_at P ts i d rise l h p = first_at P (take i ts) (drop (i + 1) ts) ts (get_or ts i d) rise (cut_at ts i d l) h p

pub none_of_all : (P : List Token → Token → Type 0) (ts : List Token) (i : ℕ) → length ts ≤ i → NoneAt P (take i ts) → (at : ℕ) → AtToken P ts at → ⊥
none_of_all P ts i l h at a = none_at P ts (subst (NoneAt P) (take_all i ts l) h) at a
