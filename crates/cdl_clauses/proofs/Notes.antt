-- The laws of annotations.
use Rattle.std.proofs.Common.{◌≡◌, ℕ, zero, suc, ◌≤◌, ◌<◌, Bool, true, false, List, [], ◌∷◌, ◌++◌, length, Option, Some, None, Ok, Err, refl, sym, ap, ◌∙◌, subst, arith, if◌then◌else◌, append_assoc, length-append}
use Rattle.cdl_tree.specs.declared.terminal.Terminal.{Terminal}
use Rattle.cdl_tree.specs.declared.terminal.Terminal.TheVariants as the
use Rattle.cdl_tree.specs.Words.{Lexeme, Word, same_terminal}
use Rattle.cdl_tree.specs.Grammar.{partner, is_plain, Balanced, nothing, other, enclosed, Note, note as a_note_of, no_note, a_note, Tail, tail as a_tail}
use Rattle.cdl_reading.specs.Reading.{Parser, Outcome, and_then, pure, terminal, sees, expect}
use Rattle.cdl_clauses.specs.Declarations as spec
use Rattle.cdl_reading.proofs.Steps.{Then, both, Is, is, weakened, pure_reads}
use Rattle.cdl_reading.proofs.Alike.{none_left}
use Rattle.cdl_reading.proofs.Laws.{member, within_self, each_at, member_left, member_right, is_none, none_is, Law, shaped, like, pure_law, Token, a_token, token_by, Reader, token_law, then_law, Or, this, that, either_law, Chosen, found, missing, chosen_by, chosen_law, flagged, only, only_is, is_only, One, token_of, expect_law, word_then, same_read}
use Rattle.cdl_reading.proofs.Repeats.{Repeats, stop, go, Loop, repeat_law}
use Rattle.cdl_expressions.proofs.Texts.{AnyText, text_law}
use Rattle.cdl_expressions.proofs.Sets.{closers, after_tail, after_condition, plains, openers, balanceds}

abbrev pub AnyNote : Word → Word → Unit {0} → Type 0
AnyNote u w a = Note w

abbrev pub wanted : Bool → Word → Word → Outcome (Unit {0})
wanted b i ts = if b then Ok (tt, ts) else Err i

-- ---- balanced tokens

abbrev plain_by : Bool → Option (Unit {0})
plain_by b = flagged b

abbrev plain_at : Lexeme → Option (Unit {0})
plain_at t = flagged (is_plain t.terminal)

plain_reader : Reader plain_at spec.plain
unfolding spec.plain
plain_reader = record { nil = refl; cons = λ t ts. cons t ts (is_plain t.terminal) }
  where
    cons : (t : Lexeme) (ts : Word) (b : Bool) → wanted b (t ∷ ts) ts ≡ token_by (flagged b) (t ∷ ts) ts
    cons t ts true = refl
    cons t ts false = refl

plain_table : (kd : Terminal) → is_plain kd ≡ member plains kd
unfolding same_terminal
plain_table the.Open = refl
plain_table the.OpenBracket = refl
plain_table the.OpenBrace = refl
plain_table _ = refl

plain_is : (kd : Terminal) (a : Unit {0}) → flagged (is_plain kd) ≡ Some a → is_plain kd ≡ true
plain_is kd a e = at (is_plain kd) e
  where
    at : (b : Bool) → flagged b ≡ Some a → b ≡ true
    at true f = refl
    at false f = cc

closer_ok : Option Terminal → Bool
closer_ok None = true
closer_ok (Some c) = member closers c

abbrev opens : Option Terminal → Bool
opens None = false
opens (Some c) = true

partner_table : (kd : Terminal) → closer_ok (partner kd) ≡ true
unfolding closer_ok same_terminal
partner_table the.Open = refl
partner_table the.OpenBracket = refl
partner_table the.OpenBrace = refl
partner_table _ = refl

opener_table : (kd : Terminal) → opens (partner kd) ≡ member openers kd
unfolding same_terminal
opener_table the.Open = refl
opener_table the.OpenBracket = refl
opener_table the.OpenBrace = refl
opener_table _ = refl

closer_of : (kd c : Terminal) → partner kd ≡ Some c → member closers c ≡ true
unfolding closer_ok
closer_of kd c e = sym (ap closer_ok e) ∙ partner_table kd

opener_of : (kd c : Terminal) → partner kd ≡ Some c → member openers kd ≡ true
opener_of kd c e = sym (opener_table kd) ∙ ap opens e

-- a token, or brackets and what they enclose
data PartB : Word → Type 0 where
  plain : (t : Lexeme) → is_plain t.terminal ≡ true → PartB (t ∷ [])
  pair : (a b : Lexeme) {v : Word} {c : Terminal} → partner a.terminal ≡ Some c → Balanced v → b.terminal ≡ c → PartB (a ∷ (v ++ b ∷ []))

abbrev PartR : Unit {0} → Word → Word → Unit {0} → Type 0
PartR a u w b = PartB w

parts_in : {a b : Unit {0}} {u w : Word} → Repeats PartR a u w b → Balanced w
parts_in stop = nothing
parts_in (go (plain t h) r) = other t h (parts_in r)
parts_in (go {v = z} (pair a b {v} h x e) r) = subst Balanced (sym (ap (λ y. a ∷ y) (append_assoc v (b ∷ []) z))) (enclosed a b h x e (parts_in r))

parts_out : (u : Word) {w : Word} → Balanced w → Repeats PartR tt u w tt
parts_out u nothing = stop
parts_out u (other t h x) = go {b = tt} (plain t h) (parts_out (u ++ t ∷ []) x)
parts_out u (enclosed a b {v} {w} h x e y) =
    subst (λ z. Repeats PartR tt u z tt) (ap (λ y. a ∷ y) (append_assoc v (b ∷ []) w)) (go {b = tt} (pair a b h x e) (parts_out (u ++ (a ∷ (v ++ b ∷ []))) y))

part_some : (a : Unit {0}) (u w : Word) (b : Unit {0}) → PartR a u w b → 0 < length w
part_some a u _ b (plain t h) = omega arith
part_some a u _ b (pair x y h v e) = omega arith

abbrev AnyBalanced : Word → Word → Unit {0} → Type 0
AnyBalanced u w a = Balanced w

abbrev InsideR : Terminal → Word → Word → Unit {0} → Type 0
InsideR c = Then AnyBalanced (λ _. One c)

part_goes : (u w : Word) (b : Unit {0}) → Chosen partner InsideR (Token plain_at) u w b → PartB w
part_goes u w b (found t {a = c} e (both x (a_token s {a = r} f))) = pair t s e x (only_is c s.terminal r f)
part_goes u w b (missing (a_token t {a = r} e)) = plain t (plain_is t.terminal r e)

part_comes : (u w : Word) (b : Unit {0}) → PartB w → Chosen partner InsideR (Token plain_at) u w b
part_comes u _ b (plain t h) = missing (a_token t (ap flagged h))
part_comes u _ b (pair s t {c = c} h x e) = found s h (both x (a_token t (is_only c t.terminal e)))

abbrev part_step : Parser (Unit {0}) → Unit {0} → Word → Parser (Unit {0})
part_step p a s = spec.balanced_part p

abbrev part_loop : Parser (Unit {0}) → ℕ → Unit {0} → Word → Parser (Unit {0})
part_loop p n a s = spec.balanced_from p n

parts_loop : (p : Parser (Unit {0})) → Loop spec.begins_balanced (part_step p) (part_loop p)
unfolding spec.balanced_from
parts_loop p = record { at_end = λ a s i. refl; turn = λ n a s i. turn n i (spec.begins_balanced (terminal i)) }
  where
    turn : (n : ℕ) (i : Word) (b : Bool) → (if b then (λ i. and_then (spec.balanced_part p i) (λ _. spec.balanced_from p n)) else pure tt) i
        ≡ (if b then and_then (spec.balanced_part p i) (λ _. spec.balanced_from p n) else pure tt i)
    turn n i true = refl
    turn n i false = refl

part_is : (p : Parser (Unit {0})) (s i : Word) (o : Option Terminal) → spec.balanced_by p o i ≡ chosen_by (λ c s i. and_then (p i) (λ _. expect c)) (λ s. spec.plain) o s i
part_is p s i None = refl
part_is p s i (Some c) = refl

plain_law : {n m : ℕ} (S : List Terminal) → Law n m (Token plain_at) plains S (λ s. spec.plain) (λ s. spec.plain)
plain_law S = token_law plain_at spec.plain plain_reader (token_of the.Comma) tt refl plains (λ t a e. sym (plain_table t.terminal) ∙ plain_is t.terminal a e) S

module _ (d d' : ℕ) (p p' : Parser (Unit {0})) (h : Law d d' AnyBalanced (balanceds ++ closers) closers (λ s. p) (λ s. p')) where
  inside_law : (kd c : Terminal) → partner kd ≡ Some c → Law d d' (InsideR c) (balanceds ++ closers) (balanceds ++ closers) (λ s i. and_then (p i) (λ _. expect c)) (λ s i. and_then (p' i) (λ _. expect c))
  unfolding same_terminal
  inside_law kd c e =
      let is = closer_of kd c e in
      then_law {U = closers} h (λ _. expect_law {S = balanceds ++ closers} c (none_is (only c the.Nothing) (each_at (λ x. is_none (only x the.Nothing)) c closers refl is))) (ap (λ b. if b then true else false) is)

  part_law : (a : Unit {0}) → Law (suc d) (suc d') (PartR a) (openers ++ plains) (balanceds ++ closers) (part_step p a) (part_step p' a)
  unfolding spec.balanced_part same_terminal
  part_law a =
      shaped part_goes part_comes
      (like (λ s i. part_is p s i (partner (terminal i))) (λ s i. part_is p' s i (partner (terminal i)))
      (chosen_law {n' = d} {m' = d'} partner refl (omega arith) (omega arith) openers (λ kd c e. opener_of kd c e) (λ kd c e. inside_law kd c e) (plain_law (balanceds ++ closers)) refl))

  parts_law : (n m : ℕ) → n ≤ suc d → m ≤ suc d' → Law n m AnyBalanced (balanceds ++ closers) closers (λ s. spec.balanced_from p n) (λ s. spec.balanced_from p' m)
  unfolding same_terminal
  parts_law n m ln lm =
      shaped (λ u w a x. parts_in x) (λ u w a x. parts_out u x)
      (repeat_law (suc d) (suc d') spec.begins_balanced (part_step p) (part_step p') (part_loop p) (part_loop p') PartR balanceds closers (balanceds ++ closers) (parts_loop p) (parts_loop p') part_some part_law
      (within_self (balanceds ++ closers)) refl refl n m ln lm tt)

balanced_heads : (w j : Word) → Balanced w → member closers (terminal j) ≡ true → member (balanceds ++ closers) (terminal (w ++ j)) ≡ true
balanced_heads _ j nothing i = member_right balanceds closers (terminal j) i
balanced_heads _ j (other t h x) i = member_left balanceds closers t.terminal (member_right openers plains t.terminal (sym (plain_table t.terminal) ∙ h))
balanced_heads _ j (enclosed a b {c = c} h x e y) i = member_left balanceds closers a.terminal (member_left openers plains a.terminal (opener_of a.terminal c h))

abbrev read_none : Word → Outcome (Unit {0})
read_none j = Ok (tt, j)

none_balanced : (w j : Word) → length w ≤ 0 → read_none (w ++ j) ≡ read_none j
none_balanced [] j le = refl
none_balanced (t ∷ w) j le = let never : ⊥ = omega (arith, le) in absurd never

pub balanced_law : (d d' : ℕ) → Law d d' AnyBalanced (balanceds ++ closers) closers (λ s. spec.balanced d) (λ s. spec.balanced d')
unfolding spec.balanced
balanced_law zero d' = record {
  reads = weakened (λ u w a x. nothing_is u w a x) (pure_reads tt);
  takes = record { takes = λ u w j a x le i. none_balanced w j le };
  alike = none_left;
  ends = record { ends = λ u. ([], tt, nothing) };
  heads = record { heads = λ u w j a x i. balanced_heads w j x i };
}
  where
    nothing_is : (u w : Word) (a : Unit {0}) → Is tt u w a → Balanced w
    nothing_is u w a is = nothing
balanced_law (suc d) zero = same_read (parts_law d zero (spec.balanced d) (spec.balanced zero) (balanced_law d zero) (suc d) zero (omega arith) (omega arith))
balanced_law (suc d) (suc d') = parts_law d d' (spec.balanced d) (spec.balanced d') (balanced_law d d') (suc d) (suc d') (omega arith) (omega arith)

-- ---- annotations

abbrev NoteR : Word → Word → Unit {0} → Type 0
NoteR = Then (One the.Annotation) (λ _. Then (One the.Open) (λ _. Then AnyBalanced (λ _. One the.Close)))

note_goes : (u w : Word) (a : Unit {0}) → NoteR u w a → Note w
note_goes u w a (both (a_token t {a = x} e) (both (a_token p {a = y} f) (both b (a_token q {a = z} g)))) =
    a_note_of t p q (only_is the.Annotation t.terminal x e) (only_is the.Open p.terminal y f) b (only_is the.Close q.terminal z g)

note_comes : (u w : Word) (a : Unit {0}) → Note w → NoteR u w a
note_comes u _ a (a_note_of t p q e f b g) =
    both (a_token t (is_only the.Annotation t.terminal e)) (both (a_token p (is_only the.Open p.terminal f)) (both b (a_token q (is_only the.Close q.terminal g))))

pub note_law : (d d' : ℕ) (S : List Terminal) → Law d d' AnyNote (the.Annotation ∷ []) S (λ s. spec.note d) (λ s. spec.note d')
unfolding spec.note same_terminal
note_law d d' S = shaped note_goes note_comes (word_then the.Annotation refl (word_then the.Open refl (then_law {U = closers} (balanced_law d d') (λ _. expect_law {S = S} the.Close refl) refl)))

-- note ";"
pub data NoteClause : Word → Type 0 where
  note_clause : {w : Word} (s : Lexeme) → Note w → s.terminal ≡ the.Semicolon → NoteClause (w ++ s ∷ [])

pub note_some : {w : Word} → NoteClause w → 0 < length w
note_some (note_clause {w} s n e) = omega (arith, length-append w (s ∷ []))

pub note_clause_law : (d d' : ℕ) (S : List Terminal) → Law d d' (λ u w a. NoteClause w) (the.Annotation ∷ []) S (λ s. spec.note_clause d) (λ s. spec.note_clause d')
unfolding spec.note_clause same_terminal
note_clause_law d d' S = shaped goes comes (then_law {U = the.Semicolon ∷ []} (note_law d d' (the.Semicolon ∷ [])) (λ _. expect_law {S = S} the.Semicolon refl) refl)
  where
    goes : (u w : Word) (a : Unit {0}) → Then AnyNote (λ _. One the.Semicolon) u w a → NoteClause w
    goes u w a (both n (a_token s {a = x} e)) = note_clause s n (only_is the.Semicolon s.terminal x e)

    comes : (u w : Word) (a : Unit {0}) → NoteClause w → Then AnyNote (λ _. One the.Semicolon) u w a
    comes u _ a (note_clause s n e) = both {a = tt} n (a_token s (is_only the.Semicolon s.terminal e))

-- ---- tails

pub tail_law : (d d' : ℕ) → Law d d' (λ u w a. Tail w) after_condition after_tail (λ s. spec.tail d) (λ s. spec.tail d')
unfolding spec.tail sees same_terminal
tail_law d d' =
    shaped goes comes
    (then_law {U = the.Annotation ∷ after_tail} (text_law d d' (the.Annotation ∷ after_tail) refl refl)
    (λ _. either_law (λ kd. same_terminal kd the.Annotation) (note_law d d' after_tail) (pure_law {S = after_tail} tt) refl refl) refl)
  where
    goes : (u w : Word) (a : Unit {0}) → Then AnyText (λ _. Or AnyNote (Is tt)) u w a → Tail w
    goes u w a (both x (this n)) = a_tail x (a_note n)
    goes u w a (both x (that is)) = a_tail x no_note

    comes : (u w : Word) (a : Unit {0}) → Tail w → Then AnyText (λ _. Or AnyNote (Is tt)) u w a
    comes u _ a (a_tail x (a_note n)) = both {a = tt} x (this n)
    comes u _ a (a_tail x no_note) = both {a = tt} x (that is)
