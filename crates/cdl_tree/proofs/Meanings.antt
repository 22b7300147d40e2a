-- What a string means, and what is computed of it.
use Rattle.std.proofs.Common.{◌≡◌, ℕ, Bool, true, false, ◌==◌, if◌then◌else◌, List, [], ◌∷◌, ◌++◌, Option, Some, None, Result, Ok, Err, IfOk, IfSome, IfNone, refl, sym, ap, ◌∙◌, subst}
use Rattle.std.proofs.lemmas.Bool.{eqb-true}
use Rattle.cdl_tree.specs.Literals.{escaped, Means, nothing, plain, escape, IsString}
use Rattle.cdl_tree.specs.inner.Strings.{put, closed, unescaped, opened, string_of}

-- ---- what is meant is computed

inside_is : {b s : List ℕ} → Means b s → unescaped false (b ++ 34 ∷ []) ≡ Some s
inside_is nothing = refl
inside_is (plain c {b} {s} q e m) =
    ap (λ p. if p then closed (b ++ 34 ∷ []) else (if c == 92 then unescaped true (b ++ 34 ∷ []) else put (Some c) (unescaped false (b ++ 34 ∷ [])))) q
    ∙ ap (λ p. if p then unescaped true (b ++ 34 ∷ []) else put (Some c) (unescaped false (b ++ 34 ∷ []))) e
    ∙ ap (put (Some c)) (inside_is m)
inside_is (escape c {d} {b} {s} f m) = ap (λ o. put o (unescaped false (b ++ 34 ∷ []))) f ∙ ap (put (Some d)) (inside_is m)

pub some_string : (text value : List ℕ) → IsString text value → string_of text ≡ Some value
unfolding string_of
some_string text value h = ap opened h.quoted ∙ inside_is h.means

-- ---- what is computed is meant

-- The bytes mean these, and are closed behind that.
abbrev Closes : List ℕ → List ℕ → Type 0
Closes b s = (u : List ℕ) × (b ≡ u ++ 34 ∷ []) × Means u s

abbrev ClosesBy : Bool → List ℕ → List ℕ → Type 0
ClosesBy false b s = Closes b s
ClosesBy true b s = (c : ℕ) × (d : ℕ) × (cs : List ℕ) × (ds : List ℕ) × (b ≡ c ∷ cs) × (escaped c ≡ Some d) × (s ≡ d ∷ ds) × Closes cs ds

closing : (c : ℕ) (cs s : List ℕ) → c ≡ 34 → closed cs ≡ Some s → Closes (c ∷ cs) s
closing c [] s e h =
    let none : [] ≡ s = cc in
    ([], ap (λ z. z ∷ []) e, subst (Means []) none nothing)
closing c (d ∷ cs) s e h = cc

closes : (e : Bool) (b s : List ℕ) → unescaped e b ≡ Some s → ClosesBy e b s
closes true [] s h = cc
closes false [] s h = cc
closes true (c ∷ cs) s h = go (escaped c) (unescaped false cs) refl refl h (λ t f. closes false cs t f)
  where
    go : (o : Option ℕ) (r : Option (List ℕ)) → escaped c ≡ o → unescaped false cs ≡ r → put o r ≡ Some s → ((t : List ℕ) → unescaped false cs ≡ Some t → Closes cs t) → ClosesBy true (c ∷ cs) s
    go None r f g h again = cc
    go (Some d) None f g h again = cc
    go (Some d) (Some t) f g h again = let same : d ∷ t ≡ s = cc in (c, d, cs, t, refl, f, sym same, again t g)
closes false (c ∷ cs) s h = go (c == 34) (c == 92) (unescaped false cs) refl refl refl h (λ t f. closes true cs t f) (λ t f. closes false cs t f)
  where
    go : (p q : Bool) (r : Option (List ℕ)) → (c == 34) ≡ p → (c == 92) ≡ q → unescaped false cs ≡ r
        → (if p then closed cs else (if q then unescaped true cs else put (Some c) r)) ≡ Some s
        → ((t : List ℕ) → unescaped true cs ≡ Some t → ClosesBy true cs t) → ((t : List ℕ) → unescaped false cs ≡ Some t → Closes cs t) → Closes (c ∷ cs) s
    go true q r e f g h escaping again = closing c cs s (eqb-true c 34 e) h
    go false true r e f g h escaping again =
        let x = escaping s h in
        let more = x.7 in
        (92 ∷ x.0 ∷ more.0, ap (λ z. z ∷ cs) (eqb-true c 92 f) ∙ ap (λ z. 92 ∷ z) x.4 ∙ ap (λ z. 92 ∷ x.0 ∷ z) more.1, subst (Means (92 ∷ x.0 ∷ more.0)) (sym x.6) (escape x.0 x.5 more.2))
    go false false None e f g h escaping again = cc
    go false false (Some t) e f g h escaping again =
        let same : c ∷ t ≡ s = cc in
        let more = again t g in
        (c ∷ more.0, ap (λ z. c ∷ z) more.1, subst (Means (c ∷ more.0)) same (plain c e f more.2))

pub string_some : (text value : List ℕ) → string_of text ≡ Some value → IsString text value
unfolding string_of
string_some [] value h = cc
string_some (c ∷ cs) value h = go (c == 34) refl h
  where
    go : (p : Bool) → (c == 34) ≡ p → (if p then unescaped false cs else None) ≡ Some value → IsString (c ∷ cs) value
    go true e g =
        let x = closes false cs value g in
        record { inside = x.0; quoted = ap (λ z. z ∷ cs) (eqb-true c 34 e) ∙ ap (λ z. 34 ∷ z) x.1; means = x.2 }
    go false e g = cc

pub string_none : (text : List ℕ) → string_of text ≡ None → (value : List ℕ) → IsString text value → ⊥
string_none text e value h = let never : None ≡ Some value = sym e ∙ some_string text value h in cc

-- ---- what the code answers

pub means_of : {E : Type 0} (text : List ℕ) (r : Result (Option (List ℕ)) E) → IfOk r (λ s. s ≡ string_of text) → IfOk r (λ s. IfSome s (IsString text))
means_of text (Err e) h = tt
means_of text (Ok None) h = tt
means_of text (Ok (Some value)) h = string_some text value (sym h)

pub none_of : {E : Type 0} (text : List ℕ) (r : Result (Option (List ℕ)) E) → IfOk r (λ s. s ≡ string_of text) → IfOk r (λ s. IfNone s ((value : List ℕ) → IsString text value → ⊥))
none_of text (Err e) h = tt
none_of text (Ok None) h = string_none text (sym h)
none_of text (Ok (Some value)) h = tt

-- ---- one value

pub one_value : (text : List ℕ) (s t : List ℕ) → IsString text s → IsString text t → t ≡ s
one_value text s t x y = same (sym (some_string text t y) ∙ some_string text s x)
  where
    same : Some t ≡ Some s → t ≡ s
    same e = cc
