-- What the texts of strings mean, what the lexer takes for a string, and the rule that takes one.
use Rattle.std.proofs.Common.{◌≡◌, ℕ, Bool, true, false, ◌||◌, ◌==◌, if◌then◌else◌, List, [], ◌∷◌, Option, Some, None, Result, Ok, Err, IfNone, refl, sym, ap, ◌∙◌, subst}
use Rattle.cdl_source.specs.declared.place.TokenSort.{TokenSort}
use Rattle.cdl_source.specs.declared.place.TokenSort.TheVariants.{Str}
use Rattle.cdl_lex.specs.Spellings.{Bytes, is_escape, IsInside, nothing, plain, escape, Spelling, identifier, keyword, integer, real, string, symbol, pair}
use Rattle.cdl_tree.specs.declared.terminal.Terminal.TheVariants as the
use Rattle.cdl_tree.specs.Words.{Word}
use Rattle.cdl_tree.specs.Literals.{escaped, Means, nothing as means_nothing, plain as means_itself, escape as means_escape, IsString}
use Rattle.cdl_tree.specs.inner.Strings.{string_of}
use Rattle.cdl_tree.proofs.Meanings.{some_string, string_some}
use Rattle.cdl_reading.specs.declared.cursor.Fault.{Fault}
use Rattle.cdl_reading.specs.declared.cursor.Fault.TheVariants.{OutOfMemory, Syntax}
use Rattle.cdl_reading.specs.Reading.{Outcome, sees, text, literal, literal_by}
use Rattle.cdl_reading.specs.Gives.{Gives, GivesMeaning}

-- ---- the lexer's strings

escape_stands : (c : ℕ) → is_escape c ≡ true → (d : ℕ) × (escaped c ≡ Some d)
unfolding is_escape
escape_stands c f = go (c == 39) (c == 34) (c == 63) (c == 92) (c == 97) (c == 98) (c == 102) (c == 110) (c == 114) (c == 116) (c == 118) f
  where
    go : (m n o p q r s t u v w : Bool) → (m || n || o || p || q || r || s || t || u || v || w) ≡ true
        → (d : ℕ) × ((if m || n || o || p then Some c else (if q then Some 7 else (if r then Some 8 else (if s then Some 12 else (if t then Some 10 else (if u then Some 13 else (if v then Some 9 else (if w then Some 11 else None)))))))) ≡ Some d)
    go true n o p q r s t u v w e = (c, refl)
    go false true o p q r s t u v w e = (c, refl)
    go false false true p q r s t u v w e = (c, refl)
    go false false false true q r s t u v w e = (c, refl)
    go false false false false true r s t u v w e = (7, refl)
    go false false false false false true s t u v w e = (8, refl)
    go false false false false false false true t u v w e = (12, refl)
    go false false false false false false false true u v w e = (10, refl)
    go false false false false false false false false true v w e = (13, refl)
    go false false false false false false false false false true w e = (9, refl)
    go false false false false false false false false false false true e = (11, refl)
    go false false false false false false false false false false false e = cc

stands_escape : (c d : ℕ) → escaped c ≡ Some d → is_escape c ≡ true
unfolding is_escape
stands_escape c d f = go (c == 39) (c == 34) (c == 63) (c == 92) (c == 97) (c == 98) (c == 102) (c == 110) (c == 114) (c == 116) (c == 118) f
  where
    go : (m n o p q r s t u v w : Bool)
        → (if m || n || o || p then Some c else (if q then Some 7 else (if r then Some 8 else (if s then Some 12 else (if t then Some 10 else (if u then Some 13 else (if v then Some 9 else (if w then Some 11 else None)))))))) ≡ Some d
        → (m || n || o || p || q || r || s || t || u || v || w) ≡ true
    go true n o p q r s t u v w e = refl
    go false true o p q r s t u v w e = refl
    go false false true p q r s t u v w e = refl
    go false false false true q r s t u v w e = refl
    go false false false false true r s t u v w e = refl
    go false false false false false true s t u v w e = refl
    go false false false false false false true t u v w e = refl
    go false false false false false false false true u v w e = refl
    go false false false false false false false false true v w e = refl
    go false false false false false false false false false true w e = refl
    go false false false false false false false false false false true e = refl
    go false false false false false false false false false false false e = cc

inside_means : {b : Bytes} → IsInside b → (s : Bytes) × Means b s
inside_means nothing = ([], means_nothing)
inside_means (plain c q e h) = let m = inside_means h in (c ∷ m.0, means_itself c q e m.1)
inside_means (escape c f h) = let m = inside_means h in let d = escape_stands c f in (d.0 ∷ m.0, means_escape c d.1 m.1)

means_inside : {b s : Bytes} → Means b s → IsInside b
means_inside means_nothing = nothing
means_inside (means_itself c q e m) = plain c q e (means_inside m)
means_inside (means_escape c {d} f m) = escape c (stands_escape c d f) (means_inside m)

spelled_by : {text : Bytes} {k : TokenSort} → Spelling text k → k ≡ Str → (value : Bytes) × IsString text value
spelled_by (identifier c cs i all new) e = cc
spelled_by (keyword s k) e = cc
spelled_by (integer ds some all) e = cc
spelled_by (real ds f x some all p q more) e = cc
spelled_by (string b h) e = let m = inside_means h in (m.0, record { inside = b; quoted = refl; means = m.1 })
spelled_by (symbol c f) e = cc
spelled_by (pair c d f) e = cc

pub spelling_means : (text : Bytes) → Spelling text Str → (value : Bytes) × IsString text value
spelling_means text x = spelled_by x refl

pub means_spelling : (text value : Bytes) → IsString text value → Spelling text Str
means_spelling text value h = subst (λ z. Spelling z Str) (sym h.quoted) (string h.inside (means_inside h.means))

-- ---- the rule

pub refuses_string : (old : Word) (here : Bytes) (o : Option Bytes) → here ≡ text old → IfNone o ((value : Bytes) → IsString here value → ⊥) → o ≡ None
    → (value : Bytes) → sees the.Str old ≡ true → IsString (text old) value → ⊥
refuses_string old here None e none f value s h = none value (subst (λ z. IsString z value) (sym e) h)
refuses_string old here (Some x) e none f value s h = cc

abbrev refused : Word → Outcome Bytes
refused i = Err i

abbrev taken : Bytes → Word → Outcome Bytes
taken a i = Ok (a, i)

abbrev by_flag : Word → Bool → Outcome Bytes
by_flag i b = if b then literal_by (string_of (text i)) i else Err i

abbrev by_value : Word → Option Bytes → Outcome Bytes
by_value i o = literal_by o i

pub gives_string : (old new : Word) (r : Result Bytes Fault) → GivesMeaning the.Str IsString old r new → Gives (literal the.Str string_of old) r new
unfolding literal
gives_string old new (Ok a) h = ap (by_flag old) h.0 ∙ ap (by_value old) (some_string (text old) a h.1) ∙ ap (taken a) (sym h.2)
gives_string old new (Err OutOfMemory) h = tt
gives_string old new (Err Syntax) h = go (sees the.Str old) refl (string_of (text old)) refl
  where
    go : (b : Bool) → sees the.Str old ≡ b → (o : Option Bytes) → string_of (text old) ≡ o → by_flag old (sees the.Str old) ≡ refused new
    go false e o f = ap (by_flag old) e ∙ ap refused (sym h.1)
    go true e None f = ap (by_flag old) e ∙ ap (by_value old) f ∙ ap refused (sym h.1)
    go true e (Some a) f = absurd (h.0 a e (string_some (text old) a f))
