-- Strings and comments up to where they are closed.
use Rattle.std.proofs.Common.{◌≡◌, ℕ, ◌+◌, ◌<◌, ◌≤◌, Bool, true, false, ◌&&◌, ◌==◌, [], ◌∷◌, ◌++◌, length, drop, get_or, Option, Some, None, refl, sym, ap, ◌∙◌, subst, arith, if◌then◌else◌}
use Rattle.std.proofs.lemmas.Bool.{eqb-true, ne_eqb, and_parts, and_right}
use Rattle.std.proofs.lemmas.List.{drop_all, drop_more}
use Rattle.cdl_lex.specs.Spellings.{Bytes, is_escape, IsInside, nothing, plain, escape}
use Rattle.cdl_lex.specs.Splits.{HoldsNoClose}
use Rattle.cdl_lex.specs.Steps.{begins, plus, inside_len, block_len}

plus_one : (at : ℕ) (o : Option ℕ) → plus at (plus 1 o) ≡ plus (at + 1) o
plus_one at None = refl
plus_one at (Some n) = let e : at + (1 + n) ≡ (at + 1) + n = omega arith in ap (λ z. Some z) e

plus_none : (at : ℕ) (o : Option ℕ) → o ≡ None → None ≡ plus at o
plus_none at o e = sym (ap (plus at) e)

-- ---- strings, a byte at a time

abbrev inside_at : Bool → ℕ → Bytes → Option ℕ
inside_at true c cs = if is_escape c then plus 1 (inside_len false cs) else None
inside_at false c cs = if c == 34 then Some 1 else (if c == 92 then plus 1 (inside_len true cs) else plus 1 (inside_len false cs))

inside_cons : (e : Bool) (c : ℕ) (cs : Bytes) → inside_len e (c ∷ cs) ≡ inside_at e c cs
unfolding inside_len
inside_cons true c cs = refl
inside_cons false c cs = refl

inside_more : (e : Bool) (b : Bytes) (at : ℕ) (w : Option ℕ) → at < length b → plus at (inside_len e (drop at b)) ≡ w → plus at (inside_at e (get_or b at 0) (drop (at + 1) b)) ≡ w
inside_more e b at w l h = sym (ap (plus at) (ap (inside_len e) (drop_more b at 0 l) ∙ inside_cons e (get_or b at 0) (drop (at + 1) b))) ∙ h

pub wrong_escape : (e : Bool) (b : Bytes) (at : ℕ) (w : Option ℕ) → at < length b → e ≡ true → is_escape (get_or b at 0) ≡ false → plus at (inside_len e (drop at b)) ≡ w → None ≡ w
wrong_escape true b at w l t f h =
    sym (ap (λ q. plus at (if q then plus 1 (inside_len false (drop (at + 1) b)) else None)) f) ∙ inside_more true b at w l h
wrong_escape false b at w l t f h = cc

pub right_escape : (e : Bool) (b : Bytes) (at : ℕ) (w : Option ℕ) → at < length b → e ≡ true → is_escape (get_or b at 0) ≡ true → plus at (inside_len e (drop at b)) ≡ w
    → plus (at + 1) (inside_len false (drop (at + 1) b)) ≡ w
right_escape true b at w l t f h =
    sym (plus_one at (inside_len false (drop (at + 1) b)))
    ∙ sym (ap (λ q. plus at (if q then plus 1 (inside_len false (drop (at + 1) b)) else None)) f) ∙ inside_more true b at w l h
right_escape false b at w l t f h = cc

pub quote_here : (e : Bool) (b : Bytes) (at : ℕ) (w : Option ℕ) → at < length b → e ≡ false → get_or b at 0 ≡ 34 → plus at (inside_len e (drop at b)) ≡ w → Some (at + 1) ≡ w
quote_here true b at w l t f h = cc
quote_here false b at w l t f h = sym (ap (λ c. plus at (inside_at false c (drop (at + 1) b))) f) ∙ inside_more false b at w l h

pub plain_here : (e : Bool) (b : Bytes) (at : ℕ) (w : Option ℕ) → at < length b → e ≡ false → (get_or b at 0 ≡ 34 → ⊥) → plus at (inside_len e (drop at b)) ≡ w
    → plus (at + 1) (inside_len (get_or b at 0 == 92) (drop (at + 1) b)) ≡ w
plain_here true b at w l t f h = cc
plain_here false b at w l t f h = go (get_or b at 0 == 92) (ap (λ q. plus at (if q then Some 1 else (if get_or b at 0 == 92 then plus 1 (inside_len true (drop (at + 1) b)) else plus 1 (inside_len false (drop (at + 1) b))))) (sym (ne_eqb _ _ f)) ∙ inside_more false b at w l h)
  where
    go : (q : Bool) → plus at (if q then plus 1 (inside_len true (drop (at + 1) b)) else plus 1 (inside_len false (drop (at + 1) b))) ≡ w → plus (at + 1) (inside_len q (drop (at + 1) b)) ≡ w
    go true g = sym (plus_one at (inside_len true (drop (at + 1) b))) ∙ g
    go false g = sym (plus_one at (inside_len false (drop (at + 1) b))) ∙ g

pub unclosed : (e : Bool) (b : Bytes) (at : ℕ) (w : Option ℕ) → length b ≤ at → plus at (inside_len e (drop at b)) ≡ w → None ≡ w
unfolding inside_len
unclosed e b at w l h = plus_none at _ (ap (inside_len e) (drop_all at b l)) ∙ h

-- ---- what is inside a string

pub inside_most : {u : Bytes} → IsInside u → (r : Bytes) → inside_len false (u ++ 34 ∷ r) ≡ Some (length u + 1)
inside_most nothing r = inside_cons false 34 r
inside_most (plain c {b = u} f g h) r =
    inside_cons false c (u ++ 34 ∷ r)
    ∙ ap (λ q. if q then Some 1 else (if c == 92 then plus 1 (inside_len true (u ++ 34 ∷ r)) else plus 1 (inside_len false (u ++ 34 ∷ r)))) f
    ∙ ap (λ q. if q then plus 1 (inside_len true (u ++ 34 ∷ r)) else plus 1 (inside_len false (u ++ 34 ∷ r))) g
    ∙ ap (plus 1) (inside_most h r)
    ∙ (let e : 1 + (length u + 1) ≡ length (c ∷ u) + 1 = omega arith in ap (λ z. Some z) e)
inside_most (escape c {b = u} f h) r =
    inside_cons false 92 (c ∷ (u ++ 34 ∷ r))
    ∙ ap (plus 1) (inside_cons true c (u ++ 34 ∷ r) ∙ ap (λ q. if q then plus 1 (inside_len false (u ++ 34 ∷ r)) else None) f ∙ ap (plus 1) (inside_most h r))
    ∙ (let e : 1 + (1 + (length u + 1)) ≡ length (92 ∷ c ∷ u) + 1 = omega arith in ap (λ z. Some z) e)

-- The bytes are closed behind n of them.
pub record Closes (b : Bytes) (n : ℕ) : Type 0 where
  pub u : Bytes
  pub r : Bytes
  pub inside : IsInside u
  pub is : b ≡ u ++ 34 ∷ r
  pub size : n ≡ length u + 1

abbrev ClosesBy : Bool → Bytes → ℕ → Type 0
ClosesBy false b n = Closes b n
ClosesBy true b n = (c : ℕ) × (cs : Bytes) × (m : ℕ) × (b ≡ c ∷ cs) × (is_escape c ≡ true) × (n ≡ 1 + m) × Closes cs m

abbrev pub some_of : ℕ → Option ℕ
some_of n = Some n

pub same_some : (m n : ℕ) → some_of m ≡ some_of n → m ≡ n
same_some m n e = cc

plus_some : (o : Option ℕ) (n : ℕ) → plus 1 o ≡ Some n → (m : ℕ) × (o ≡ Some m) × (n ≡ 1 + m)
plus_some None n e = cc
plus_some (Some m) n e = (m, refl, sym (same_some (1 + m) n e))

pub closes : (e : Bool) (b : Bytes) (n : ℕ) → inside_len e b ≡ Some n → ClosesBy e b n
unfolding inside_len
closes true [] n h = cc
closes false [] n h = cc
closes true (c ∷ cs) n h = go (is_escape c) refl h (λ m f. closes false cs m f)
  where
    go : (q : Bool) → is_escape c ≡ q → (if q then plus 1 (inside_len false cs) else None) ≡ Some n → ((m : ℕ) → inside_len false cs ≡ Some m → Closes cs m) → ClosesBy true (c ∷ cs) n
    go false f g again = cc
    go true f g again = let p = plus_some (inside_len false cs) n g in (c, cs, p.0, refl, f, p.2, again p.0 p.1)
closes false (c ∷ cs) n h = go (c == 34) (c == 92) refl refl h (λ m f. closes true cs m f) (λ m f. closes false cs m f)
  where
    go : (p q : Bool) → (c == 34) ≡ p → (c == 92) ≡ q → (if p then Some 1 else (if q then plus 1 (inside_len true cs) else plus 1 (inside_len false cs))) ≡ Some n
        → ((m : ℕ) → inside_len true cs ≡ Some m → ClosesBy true cs m) → ((m : ℕ) → inside_len false cs ≡ Some m → Closes cs m) → Closes (c ∷ cs) n
    go true q e f g escaped again = record { u = []; r = cs; inside = nothing; is = ap (λ z. z ∷ cs) (eqb-true c 34 e); size = sym (same_some 1 n g) }
    go false true e f g escaped again =
        let p = plus_some (inside_len true cs) n g in
        let h = escaped p.0 p.1 in
        let more = h.6 in
        let whole : c ∷ cs ≡ 92 ∷ h.0 ∷ (more.u ++ 34 ∷ more.r) = ap (λ z. z ∷ cs) (eqb-true c 92 f) ∙ ap (λ z. 92 ∷ z) h.3 ∙ ap (λ z. 92 ∷ h.0 ∷ z) more.is in
        let first : n ≡ 1 + p.0 = p.2 in
        let second : p.0 ≡ 1 + h.2 = h.5 in
        let last : h.2 ≡ length more.u + 1 = more.size in
        record { u = 92 ∷ h.0 ∷ more.u; r = more.r; inside = escape h.0 h.4 more.inside; is = whole; size = omega arith }
    go false false e f g escaped again =
        let p = plus_some (inside_len false cs) n g in
        let more = again p.0 p.1 in
        let first : n ≡ 1 + p.0 = p.2 in
        let last : p.0 ≡ length more.u + 1 = more.size in
        record { u = c ∷ more.u; r = more.r; inside = plain c e f more.inside; is = ap (λ z. c ∷ z) more.is; size = omega arith }

-- ---- comments

abbrev block_at : ℕ → Bytes → Option ℕ
block_at c cs = if c == 42 && begins 47 cs then Some 2 else plus 1 (block_len cs)

block_cons : (c : ℕ) (cs : Bytes) → block_len (c ∷ cs) ≡ block_at c cs
unfolding block_len
block_cons c cs = refl

block_more : (b : Bytes) (at : ℕ) (w : Option ℕ) → at < length b → plus at (block_len (drop at b)) ≡ w → plus at (block_at (get_or b at 0) (drop (at + 1) b)) ≡ w
block_more b at w l h = sym (ap (plus at) (ap block_len (drop_more b at 0 l) ∙ block_cons (get_or b at 0) (drop (at + 1) b))) ∙ h

begins_at : (b : Bytes) (at c : ℕ) → at < length b → begins c (drop at b) ≡ (get_or b at 0 == c)
begins_at b at c l = ap (begins c) (drop_more b at 0 l)

pub close_here : (b : Bytes) (at : ℕ) (w : Option ℕ) → at + 1 < length b → get_or b at 0 ≡ 42 → get_or b (at + 1) 0 ≡ 47 → plus at (block_len (drop at b)) ≡ w → Some (at + 2) ≡ w
close_here b at w l e f h =
    let within : at < length b = omega arith in
    let second : begins 47 (drop (at + 1) b) ≡ true = begins_at b (at + 1) 47 l ∙ ap (λ z. z == 47) f in
    sym (ap (λ c. plus at (if c == 42 && begins 47 (drop (at + 1) b) then Some 2 else plus 1 (block_len (drop (at + 1) b)))) e
    ∙ ap (λ q. plus at (if q then Some 2 else plus 1 (block_len (drop (at + 1) b)))) second) ∙ block_more b at w within h

pub no_close_here : (b : Bytes) (at : ℕ) (w : Option ℕ) → at < length b → (get_or b at 0 == 42 && begins 47 (drop (at + 1) b)) ≡ false → plus at (block_len (drop at b)) ≡ w
    → plus (at + 1) (block_len (drop (at + 1) b)) ≡ w
no_close_here b at w l f h =
    sym (plus_one at (block_len (drop (at + 1) b)))
    ∙ sym (ap (λ q. plus at (if q then Some 2 else plus 1 (block_len (drop (at + 1) b)))) f) ∙ block_more b at w l h

pub other_byte : (b : Bytes) (at : ℕ) → (get_or b at 0 ≡ 42 → ⊥) → (get_or b at 0 == 42 && begins 47 (drop (at + 1) b)) ≡ false
other_byte b at f = ap (λ q. q && begins 47 (drop (at + 1) b)) (ne_eqb _ _ f)

pub other_second : (b : Bytes) (at : ℕ) → at + 1 < length b → (get_or b (at + 1) 0 ≡ 47 → ⊥) → (get_or b at 0 == 42 && begins 47 (drop (at + 1) b)) ≡ false
other_second b at l f = ap (λ q. get_or b at 0 == 42 && q) (begins_at b (at + 1) 47 l ∙ ne_eqb _ _ f) ∙ and_right (get_or b at 0 == 42) false refl

pub no_second : (b : Bytes) (at : ℕ) → length b ≤ at + 1 → (get_or b at 0 == 42 && begins 47 (drop (at + 1) b)) ≡ false
no_second b at l = ap (λ z. get_or b at 0 == 42 && begins 47 z) (drop_all (at + 1) b l) ∙ and_right (get_or b at 0 == 42) false refl

pub unclosed_block : (b : Bytes) (at : ℕ) (w : Option ℕ) → length b ≤ at → plus at (block_len (drop at b)) ≡ w → None ≡ w
unfolding block_len
unclosed_block b at w l h = plus_none at _ (ap block_len (drop_all at b l)) ∙ h

behind_first : (c : ℕ) (s : Bytes) → HoldsNoClose (c ∷ s) → HoldsNoClose s
behind_first c s h u v e = h (c ∷ u) v (ap (λ z. c ∷ z) e)

closes_not : (c : ℕ) (s r : Bytes) → HoldsNoClose (c ∷ s) → (c == 42 && begins 47 (s ++ 42 ∷ 47 ∷ r)) ≡ false
closes_not c [] r h = and_right (c == 42) false refl
closes_not c (d ∷ s) r h = go (c == 42) (d == 47) refl refl
  where
    go : (p q : Bool) → (c == 42) ≡ p → (d == 47) ≡ q → (p && q) ≡ false
    go true true e f = absurd (h [] s (ap (λ z. z ∷ d ∷ s) (eqb-true c 42 e) ∙ ap (λ z. 42 ∷ z ∷ s) (eqb-true d 47 f)))
    go true false e f = refl
    go false q e f = refl

pub block_most : (s r : Bytes) → HoldsNoClose s → block_len (s ++ 42 ∷ 47 ∷ r) ≡ Some (length s + 2)
block_most [] r h = block_cons 42 (47 ∷ r)
block_most (c ∷ s) r h =
    block_cons c (s ++ 42 ∷ 47 ∷ r)
    ∙ ap (λ q. if q then Some 2 else plus 1 (block_len (s ++ 42 ∷ 47 ∷ r))) (closes_not c s r h)
    ∙ ap (plus 1) (block_most s r (behind_first c s h))
    ∙ (let e : 1 + (length s + 2) ≡ length (c ∷ s) + 2 = omega arith in ap (λ z. Some z) e)

pub record ClosesBlock (b : Bytes) (n : ℕ) : Type 0 where
  pub s : Bytes
  pub r : Bytes
  pub inside : HoldsNoClose s
  pub is : b ≡ s ++ 42 ∷ 47 ∷ r
  pub size : n ≡ length s + 2

begins_with : (c : ℕ) (b : Bytes) → begins c b ≡ true → (r : Bytes) × (b ≡ c ∷ r)
begins_with c [] f = cc
begins_with c (d ∷ b) f = (b, ap (λ z. z ∷ b) (eqb-true d c f))

nothing_held : HoldsNoClose []
nothing_held [] v e = cc
nothing_held (c ∷ u) v e = cc

-- one byte more in front
more_held : (c : ℕ) (s r : Bytes) → (c == 42 && begins 47 (s ++ 42 ∷ 47 ∷ r)) ≡ false → HoldsNoClose s → HoldsNoClose (c ∷ s)
more_held c s r f h [] v e =
    let first : c ≡ 42 = cc in
    let second : s ≡ 47 ∷ v = cc in
    let never : true ≡ false = sym (ap (λ z. z == 42 && begins 47 (s ++ 42 ∷ 47 ∷ r)) first ∙ ap (λ z. begins 47 (z ++ 42 ∷ 47 ∷ r)) second) ∙ f in cc
more_held c s r f h (d ∷ u) v e = let rest : s ≡ u ++ 42 ∷ 47 ∷ v = cc in h u v rest

pub closes_block : (b : Bytes) (n : ℕ) → block_len b ≡ Some n → ClosesBlock b n
unfolding block_len
closes_block [] n h = cc
closes_block (c ∷ cs) n h = go (c == 42 && begins 47 cs) refl h (λ m f. closes_block cs m f)
  where
    go : (q : Bool) → (c == 42 && begins 47 cs) ≡ q → (if q then Some 2 else plus 1 (block_len cs)) ≡ Some n → ((m : ℕ) → block_len cs ≡ Some m → ClosesBlock cs m) → ClosesBlock (c ∷ cs) n
    go true e g again =
        let p = and_parts (c == 42) (begins 47 cs) e in
        let tail = begins_with 47 cs p.1 in
        record { s = []; r = tail.0; inside = nothing_held; is = ap (λ z. z ∷ cs) (eqb-true c 42 p.0) ∙ ap (λ z. 42 ∷ z) tail.1; size = sym (same_some 2 n g) }
    go false e g again =
        let p = plus_some (block_len cs) n g in
        let more = again p.0 p.1 in
        let first : n ≡ 1 + p.0 = p.2 in
        let last : p.0 ≡ length more.s + 2 = more.size in
        record { s = c ∷ more.s; r = more.r; inside = more_held c more.s more.r (subst (λ z. (c == 42 && begins 47 z) ≡ false) more.is e) more.inside; is = ap (λ z. c ∷ z) more.is; size = omega arith }
