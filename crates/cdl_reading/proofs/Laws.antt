-- What is known of a rule, all in one: what it reads is derived and where it is stuck a word begins; what is derived is read where
-- what follows is of a set of terminals; and where it stops at a token, the tokens behind that one play no part.
use Rattle.std.proofs.Common.{◌≡◌, ℕ, suc, ◌+◌, ◌≤◌, ◌<◌, Bool, true, false, not, List, [], ◌∷◌, ◌++◌, length, Option, Some, None, Ok, Err, refl, sym, ap, ◌∙◌, subst, arith, if◌then◌else◌, append_assoc, length-append}
use denote.Enum.Bare.{true_same}
use Rattle.cdl_tree.specs.contracts.terminal.Terminal.{the_type}
use Rattle.cdl_tree.specs.declared.terminal.Terminal.{Terminal}
use Rattle.cdl_tree.specs.declared.terminal.Terminal.TheVariants as the
use Rattle.cdl_tree.specs.Words.{Lexeme, Word, same_terminal}
use Rattle.cdl_tree.specs.Grammar.{Flag, absent, present}
use Rattle.cdl_reading.specs.Reading.{Outcome, Parser, and_then, pure, terminal, next, sees, after, eat, expect, made}
use Rattle.cdl_reading.proofs.Steps.{Meets, Reads, Ends, Leaves, Then, both, Is, is, Made, is_made, First, first as first_token, weaker, weakened, fewer, in_turn, begun, pure_reads, pure_ends, made_reads, made_ends, since_is, seam, behind, is_terminal, stuck_here, then_ends}
use Rattle.cdl_reading.proofs.Alike.{Alike, stops, alike_turn, fewer_alike, pure_alike, pure_at, made_alike, begun_alike, refuse_at, behind_alike, behind_not, none_left, none_right, never_back, same_pair}

-- ---- sets of terminals

abbrev pub member : List Terminal → Terminal → Bool
member [] kd = false
member (x ∷ xs) kd = if same_terminal x kd then true else member xs kd

abbrev pub each : (Terminal → Bool) → List Terminal → Bool
each f [] = true
each f (x ∷ xs) = if f x then each f xs else false

-- each terminal of the first set is in the second
abbrev pub within : List Terminal → List Terminal → Bool
within xs ys = each (member ys) xs

pub each_at : (f : Terminal → Bool) (kd : Terminal) (xs : List Terminal) → each f xs ≡ true → member xs kd ≡ true → f kd ≡ true
each_at f kd [] e h = absurd (cc)
each_at f kd (x ∷ xs) e h = go (f x) (same_terminal x kd) refl refl (each_at f kd xs) e h
  where
    go : (b c : Bool) → f x ≡ b → same_terminal x kd ≡ c → (each f xs ≡ true → member xs kd ≡ true → f kd ≡ true)
        → (if b then each f xs else false) ≡ true → (if c then true else member xs kd) ≡ true → f kd ≡ true
    go false c p q again e h = absurd (cc)
    go true true p q again e h = subst (λ z. f z ≡ true) (is_terminal x kd q) p
    go true false p q again e h = again e h

pub member_left : (xs ys : List Terminal) (kd : Terminal) → member xs kd ≡ true → member (xs ++ ys) kd ≡ true
member_left [] ys kd h = absurd (cc)
member_left (x ∷ xs) ys kd h = go (same_terminal x kd) (member_left xs ys kd) h
  where
    go : (c : Bool) → (member xs kd ≡ true → member (xs ++ ys) kd ≡ true) → (if c then true else member xs kd) ≡ true → (if c then true else member (xs ++ ys) kd) ≡ true
    go true again h = refl
    go false again h = again h

pub member_right : (xs ys : List Terminal) (kd : Terminal) → member ys kd ≡ true → member (xs ++ ys) kd ≡ true
member_right [] ys kd h = h
member_right (x ∷ xs) ys kd h = go (same_terminal x kd) (member_right xs ys kd h)
  where
    go : (c : Bool) → member (xs ++ ys) kd ≡ true → (if c then true else member (xs ++ ys) kd) ≡ true
    go true again = refl
    go false again = again

pub is_same : (a b : Terminal) → a ≡ b → same_terminal a b ≡ true
unfolding same_terminal
is_same a b e = true_same the_type a b e

pub alone : (kd x : Terminal) → kd ≡ x → member (x ∷ []) kd ≡ true
alone kd x e = ap (λ c. if c then true else false) (is_same x kd (sym e))

-- ---- laws

pub record Takes {A : Type 0} (n : ℕ) (R : Word → Word → A → Type 0) (S : List Terminal) (P : Word → Parser A) : Type 0 where
  pub takes : (u w j : Word) (a : A) → R u w a → length w ≤ n → member S (terminal j) ≡ true → P (u ++ (w ++ j)) (w ++ j) ≡ Ok (a, j)

-- a word of R, or what follows an empty one, begins with a terminal of T
pub record Heads {A : Type 0} (R : Word → Word → A → Type 0) (T S : List Terminal) : Type 0 where
  pub heads : (u w j : Word) (a : A) → R u w a → member S (terminal j) ≡ true → member T (terminal (w ++ j)) ≡ true

pub record Law {A : Type 0} (n m : ℕ) (R : Word → Word → A → Type 0) (T S : List Terminal) (P P' : Word → Parser A) : Type 0 where
  pub reads : Reads n R P
  pub takes : Takes n R S P
  pub alike : Alike n m P P'
  pub ends : Ends R
  pub heads : Heads R T S

pub fewer_law : {A : Type 0} {n m n' m' : ℕ} {R : Word → Word → A → Type 0} {T S : List Terminal} {P P' : Word → Parser A} → n' ≤ n → m' ≤ m → Law n m R T S P P' → Law n' m' R T S P P'
fewer_law ln lm l = record {
  reads = fewer ln l.reads;
  takes = record { takes = λ u w j a h le s. l.takes.takes u w j a h (omega (arith, le, ln)) s };
  alike = fewer_alike ln lm l.alike;
  ends = l.ends;
  heads = l.heads;
}

pub wider : {A : Type 0} {n m : ℕ} {R : Word → Word → A → Type 0} {T S : List Terminal} (T' S' : List Terminal) {P P' : Word → Parser A} → within T T' ≡ true → within S' S ≡ true
    → Law n m R T S P P' → Law n m R T' S' P P'
wider {T = T} {S = S} T' S' t s l = record {
  reads = l.reads;
  takes = record { takes = λ u w j a h le i. l.takes.takes u w j a h le (each_at (member S) (terminal j) S' s i) };
  alike = l.alike;
  ends = l.ends;
  heads = record { heads = λ u w j a h i. each_at (member T') (terminal (w ++ j)) T t (l.heads.heads u w j a h (each_at (member S) (terminal j) S' s i)) };
}

-- another relation with the same words
pub shaped : {A : Type 0} {n m : ℕ} {R Q : Word → Word → A → Type 0} {T S : List Terminal} {P P' : Word → Parser A} → ((u w : Word) (a : A) → R u w a → Q u w a) → ((u w : Word) (a : A) → Q u w a → R u w a)
    → Law n m R T S P P' → Law n m Q T S P P'
shaped f g l = record {
  reads = weakened f l.reads;
  takes = record { takes = λ u w j a h le i. l.takes.takes u w j a (g u w a h) le i };
  alike = l.alike;
  ends = record { ends = λ u. let e = l.ends.ends u in (e.0, e.1, f u e.0 e.1 e.2) };
  heads = record { heads = λ u w j a h i. l.heads.heads u w j a (g u w a h) i };
}

-- another function with the same outcomes
pub like : {A : Type 0} {n m : ℕ} {R : Word → Word → A → Type 0} {T S : List Terminal} {P P' Q Q' : Word → Parser A} → ((s i : Word) → Q s i ≡ P s i) → ((s i : Word) → Q' s i ≡ P' s i)
    → Law n m R T S P P' → Law n m R T S Q Q'
like {R = R} f g l = record {
  reads = record { reads = λ u i le. subst (Meets R u i) (sym (f (u ++ i) i)) (l.reads.reads u i le) };
  takes = record { takes = λ u w j a h le i. f (u ++ (w ++ j)) (w ++ j) ∙ l.takes.takes u w j a h le i };
  alike = record { alike = λ u w r r' x o le lt e. g (u ++ (w ++ x ∷ r')) (w ++ x ∷ r') ∙ l.alike.alike u w r r' x o le lt (sym (f (u ++ (w ++ x ∷ r)) (w ++ x ∷ r)) ∙ e) };
  ends = l.ends;
  heads = l.heads;
}

pub begun_law : {A : Type 0} {n m : ℕ} {R : Word → Word → A → Type 0} {T S : List Terminal} {P P' : Word → Parser A} → Law n m R T S P P' → Law n m (λ u. R []) T S (λ s i. P i i) (λ s i. P' i i)
begun_law l = record {
  reads = begun l.reads;
  takes = record { takes = λ u w j a h le i. l.takes.takes [] w j a h le i };
  alike = begun_alike l.alike;
  ends = record { ends = λ u. l.ends.ends [] };
  heads = record { heads = λ u w j a h i. l.heads.heads [] w j a h i };
}

-- ---- the steps

pure_takes : {A : Type 0} {a : A} {u w : Word} {b : A} → Is a u w b → (j : Word) → pure a (w ++ j) ≡ pure b j
pure_takes is j = refl

pure_heads : {A : Type 0} {a : A} {u w : Word} {b : A} (S : List Terminal) → Is a u w b → (j : Word) → member S (terminal j) ≡ true → member S (terminal (w ++ j)) ≡ true
pure_heads S is j h = h

pub pure_law : {A : Type 0} {n m : ℕ} {S : List Terminal} (a : A) → Law n m (Is a) S S (λ s. pure a) (λ s. pure a)
pure_law {S = S} a = record {
  reads = pure_reads a;
  takes = record { takes = λ u w j b h le i. pure_takes h j };
  alike = pure_alike a;
  ends = pure_ends a;
  heads = record { heads = λ u w j b h i. pure_heads S h j i };
}

pub made_is : {A : Type 0} (f : Word → A) (u j : Word) → made f (u ++ j) j ≡ Ok (f u, j)
unfolding made
made_is f u j = ap (λ z. Ok (f z, j)) (since_is u j)

made_takes : {A : Type 0} {f : Word → A} {u w : Word} {b : A} → Made f u w b → (j : Word) → made f (u ++ (w ++ j)) (w ++ j) ≡ Ok (b, j)
made_takes {f = f} {u = u} (is_made e) j = made_is f u j ∙ ap (λ z. Ok (z, j)) (sym e)

made_heads : {A : Type 0} {f : Word → A} {u w : Word} {b : A} (S : List Terminal) → Made f u w b → (j : Word) → member S (terminal j) ≡ true → member S (terminal (w ++ j)) ≡ true
made_heads S (is_made e) j h = h

pub made_law : {A : Type 0} {n m : ℕ} {S : List Terminal} (f : Word → A) → Law n m (Made f) S S (λ s. made f s) (λ s. made f s)
made_law {S = S} f = record {
  reads = made_reads f;
  takes = record { takes = λ u w j b h le i. made_takes h j };
  alike = made_alike f;
  ends = made_ends f;
  heads = record { heads = λ u w j b h i. made_heads S h j i };
}

-- ---- one token

pub data Token {A : Type 0} (f : Lexeme → Option A) (u : Word) : Word → A → Type 0 where
  a_token : (t : Lexeme) {a : A} → f t ≡ Some a → Token f u (t ∷ []) a

abbrev pub token_by : {A : Type 0} → Option A → Word → Word → Outcome A
token_by (Some a) i j = Ok (a, j)
token_by None i j = Err i

-- P gives the value that f has of the next token.
pub record Reader {A : Type 0} (f : Lexeme → Option A) (P : Parser A) : Type 0 where
  pub nil : P [] ≡ Err []
  pub cons : (t : Lexeme) (ts : Word) → P (t ∷ ts) ≡ token_by (f t) (t ∷ ts) ts

module _ {A : Type 0} (f : Lexeme → Option A) (P : Parser A) (r : Reader f P) (v : Lexeme) (value : A) (known : f v ≡ Some value) where
  token_stuck : (u i : Word) → Meets (Token f) u i (Err i)
  token_stuck u i = stuck_here (v ∷ []) value (a_token v known)

  token_read : (u : Word) (t : Lexeme) (ts : Word) (o : Option A) → f t ≡ o → Meets (Token f) u (t ∷ ts) (token_by o (t ∷ ts) ts)
  token_read u t ts (Some a) e = record { shape = (t ∷ [], refl, a_token t e) }
  token_read u t ts None e = token_stuck u (t ∷ ts)

  token_reads : (u i : Word) → Meets (Token f) u i (P i)
  token_reads u [] = subst (Meets (Token f) u []) (sym r.nil) (token_stuck u [])
  token_reads u (t ∷ ts) = subst (Meets (Token f) u (t ∷ ts)) (sym (r.cons t ts)) (token_read u t ts (f t) refl)

  token_takes : (u w j : Word) (a : A) → Token f u w a → P (w ++ j) ≡ Ok (a, j)
  token_takes u _ j a (a_token t e) = r.cons t j ∙ ap (λ o. token_by o (t ∷ j) j) e

  token_once : (t : Lexeme) (ts ts' : Word) (o : Option A) (p : Option A) → token_by p (t ∷ ts) ts ≡ stops o (t ∷ ts) → token_by p (t ∷ ts') ts' ≡ stops o (t ∷ ts')
  token_once t ts ts' None (Some a) e = cc
  token_once t ts ts' (Some b) (Some a) e = absurd (never_back [] ts t (ap (λ z. z.1) (same_pair _ _ e)))
  token_once t ts ts' o None e = refuse_at [] ts ts' t o e

  token_later : (t x : Lexeme) (w r r' : Word) (o : Option A) (p : Option A) → token_by p (t ∷ (w ++ x ∷ r)) (w ++ x ∷ r) ≡ stops o (x ∷ r) → token_by p (t ∷ (w ++ x ∷ r')) (w ++ x ∷ r') ≡ stops o (x ∷ r')
  token_later t x w r r' o (Some a) e = pure_at a w r r' x o e
  token_later t x w r r' o None e = refuse_at (t ∷ w) r r' x o e

  token_alike : (u w r r' : Word) (x : Lexeme) (o : Option A) → P (w ++ x ∷ r) ≡ stops o (x ∷ r) → P (w ++ x ∷ r') ≡ stops o (x ∷ r')
  token_alike u [] q q' x o e = r.cons x q' ∙ token_once x q q' o (f x) (sym (r.cons x q) ∙ e)
  token_alike u (t ∷ w) q q' x o e = r.cons t (w ++ x ∷ q') ∙ token_later t x w q q' o (f t) (sym (r.cons t (w ++ x ∷ q)) ∙ e)

  module _ (T : List Terminal) (terminals : (t : Lexeme) (a : A) → f t ≡ Some a → member T t.terminal ≡ true) where
    token_heads : (u w j : Word) (a : A) → Token f u w a → member T (terminal (w ++ j)) ≡ true
    token_heads u _ j a (a_token t e) = terminals t a e

    pub token_law : {n m : ℕ} (S : List Terminal) → Law n m (Token f) T S (λ s. P) (λ s. P)
    token_law S = record {
      reads = record { reads = λ u i le. token_reads u i };
      takes = record { takes = λ u w j a h le i. token_takes u w j a h };
      alike = record { alike = λ u w r r' x o le lt e. token_alike u w r r' x o e };
      ends = record { ends = λ u. (v ∷ [], value, a_token v known) };
      heads = record { heads = λ u w j a h i. token_heads u w j a h };
    }

-- ---- one after another

module _ {A B : Type 0} {n m n' m' : ℕ} {R : Word → Word → A → Type 0} {Q : A → Word → Word → B → Type 0} {P P' : Word → Parser A} {F F' : A → Word → Parser B} {T S V : List Terminal} (U : List Terminal)
    (less : (u w : Word) (a : A) → R u w a → (n ≤ n' + length w) × (m ≤ m' + length w)) (p : Law n m R T U P P') (f : (a : A) → Law n' m' (Q a) V S (F a) (F' a)) (sub : within V U ≡ true) where
  turn_next : (u x y j : Word) (a : A) (b : B) → Q a (u ++ x) y b → member S (terminal j) ≡ true → member U (terminal (y ++ j)) ≡ true
  turn_next u x y j a b q i = each_at (member U) (terminal (y ++ j)) V sub ((f a).heads.heads (u ++ x) y j b q i)

  turn_takes : (u w j : Word) (b : B) → Then R Q u w b → length w ≤ n → member S (terminal j) ≡ true → and_then (P (u ++ (w ++ j)) (w ++ j)) (λ a. F a (u ++ (w ++ j))) ≡ Ok (b, j)
  turn_takes u _ j b (both {x} {y} {a} r q) le i =
      let all : length (x ++ y) ≡ length x + length y = length-append x y in
      let at : (x ++ y) ++ j ≡ x ++ (y ++ j) = append_assoc x y j in
      ap (λ z. and_then (P (u ++ z) z) (λ a. F a (u ++ z))) at
      ∙ ap (λ z. and_then z (λ a. F a (u ++ (x ++ (y ++ j))))) (p.takes.takes u x (y ++ j) a r (omega (arith, le, all)) (turn_next u x y j a b q i))
      ∙ ap (λ z. F a z (y ++ j)) (sym (append_assoc u x (y ++ j)))
      ∙ (f a).takes.takes (u ++ x) y j b q (omega (arith, le, all, (less u x a r).0)) i

  turn_heads : (u w j : Word) (b : B) → Then R Q u w b → member S (terminal j) ≡ true → member T (terminal (w ++ j)) ≡ true
  turn_heads u _ j b (both {x} {y} {a} r q) i =
      subst (λ z. member T (terminal z) ≡ true) (sym (append_assoc x y j)) (p.heads.heads u x (y ++ j) a r (turn_next u x y j a b q i))

  turn_leaves : Leaves n n' R
  turn_leaves = record { leaves = λ u x j a h le. omega (arith, le, length-append x j, (less u x a h).0) }

  pub turn_law : Law n m (Then R Q) T S (λ s i. and_then (P s i) (λ a. F a s)) (λ s i. and_then (P' s i) (λ a. F' a s))
  turn_law = record {
    reads = in_turn turn_leaves p.reads (λ a. (f a).reads) (λ a. (f a).ends);
    takes = record { takes = turn_takes };
    alike = alike_turn less p.reads (λ a. (f a).reads) p.alike (λ a. (f a).alike);
    ends = then_ends p.ends (λ a. (f a).ends);
    heads = record { heads = turn_heads };
  }

-- one rule after another, where the first may read nothing, and where it reads something
pub then_law : {A B : Type 0} {n m : ℕ} {R : Word → Word → A → Type 0} {Q : A → Word → Word → B → Type 0} {P P' : Word → Parser A} {F F' : A → Word → Parser B} {T S V U : List Terminal}
    → Law n m R T U P P' → ((a : A) → Law n m (Q a) V S (F a) (F' a)) → within V U ≡ true → Law n m (Then R Q) T S (λ s i. and_then (P s i) (λ a. F a s)) (λ s i. and_then (P' s i) (λ a. F' a s))
then_law {n = n} {m = m} {U = U} p f sub = turn_law {n = n} {m = m} {n' = n} {m' = m} U (λ u w a x. (omega arith, omega arith)) p f sub

pub Some_of : {A : Type 0} → (Word → Word → A → Type 0) → Type 0
Some_of {A} R = (u w : Word) (a : A) → R u w a → 0 < length w

pub then_less : {A B : Type 0} {n m : ℕ} {R : Word → Word → A → Type 0} {Q : A → Word → Word → B → Type 0} {P P' : Word → Parser A} {F F' : A → Word → Parser B} {T S V U : List Terminal}
    → ((u w : Word) (a : A) → R u w a → 0 < length w) → Law (suc n) (suc m) R T U P P' → ((a : A) → Law n m (Q a) V S (F a) (F' a)) → within V U ≡ true
    → Law (suc n) (suc m) (Then R Q) T S (λ s i. and_then (P s i) (λ a. F a s)) (λ s i. and_then (P' s i) (λ a. F' a s))
then_less {n = n} {m = m} {U = U} some p f sub = turn_law {n = suc n} {m = suc m} {n' = n} {m' = m} U (λ u w a x. (omega (arith, some u w a x), omega (arith, some u w a x))) p f sub

-- ---- one of two rules, by the terminal of the next token

pub data Or {A : Type 0} (Q R : Word → Word → A → Type 0) (u : Word) : Word → A → Type 0 where
  this : {w : Word} {a : A} → Q u w a → Or Q R u w a
  that : {w : Word} {a : A} → R u w a → Or Q R u w a

module _ {A : Type 0} {n m : ℕ} {Q R : Word → Word → A → Type 0} {F F' G G' : Word → Parser A} {T V S : List Terminal} (K : Terminal → Bool) (f : Law n m Q T S F F') (g : Law n m R V S G G')
    (yes_there : each K T ≡ true) (not_there : each (λ kd. not (K kd)) V ≡ true) where
  or_reads : (u i : Word) → length i ≤ n → (b : Bool) → Meets (Or Q R) u i ((if b then F (u ++ i) else G (u ++ i)) i)
  or_reads u i le true = weaker (λ w a h. this h) (f.reads.reads u i le)
  or_reads u i le false = weaker (λ w a h. that h) (g.reads.reads u i le)

  negated : (b : Bool) → not b ≡ true → b ≡ false
  negated true e = cc
  negated false e = refl

  or_takes : (u w j : Word) (a : A) → Or Q R u w a → length w ≤ n → member S (terminal j) ≡ true → (if K (terminal (w ++ j)) then F (u ++ (w ++ j)) else G (u ++ (w ++ j))) (w ++ j) ≡ Ok (a, j)
  or_takes u w j a (this h) le i =
      ap (λ b. (if b then F (u ++ (w ++ j)) else G (u ++ (w ++ j))) (w ++ j)) (each_at K (terminal (w ++ j)) T yes_there (f.heads.heads u w j a h i)) ∙ f.takes.takes u w j a h le i
  or_takes u w j a (that h) le i =
      ap (λ b. (if b then F (u ++ (w ++ j)) else G (u ++ (w ++ j))) (w ++ j)) (negated (K (terminal (w ++ j))) (each_at (λ kd. not (K kd)) (terminal (w ++ j)) V not_there (g.heads.heads u w j a h i)))
      ∙ g.takes.takes u w j a h le i

  or_by : (u w r r' : Word) (x : Lexeme) (o : Option A) → length (w ++ x ∷ r) ≤ n → length w < m → (b : Bool)
      → (if b then F (u ++ (w ++ x ∷ r)) else G (u ++ (w ++ x ∷ r))) (w ++ x ∷ r) ≡ stops o (x ∷ r) → (if b then F' (u ++ (w ++ x ∷ r')) else G' (u ++ (w ++ x ∷ r'))) (w ++ x ∷ r') ≡ stops o (x ∷ r')
  or_by u w r r' x o le lt true e = f.alike.alike u w r r' x o le lt e
  or_by u w r r' x o le lt false e = g.alike.alike u w r r' x o le lt e

  or_alike : (u w r r' : Word) (x : Lexeme) (o : Option A) → length (w ++ x ∷ r) ≤ n → length w < m
      → (if K (terminal (w ++ x ∷ r)) then F (u ++ (w ++ x ∷ r)) else G (u ++ (w ++ x ∷ r))) (w ++ x ∷ r) ≡ stops o (x ∷ r)
      → (if K (terminal (w ++ x ∷ r')) then F' (u ++ (w ++ x ∷ r')) else G' (u ++ (w ++ x ∷ r'))) (w ++ x ∷ r') ≡ stops o (x ∷ r')
  or_alike u [] r r' x o le lt e = or_by u [] r r' x o le lt (K x.terminal) e
  or_alike u (t ∷ w) r r' x o le lt e = or_by u (t ∷ w) r r' x o le lt (K t.terminal) e

  or_heads : (u w j : Word) (a : A) → Or Q R u w a → member S (terminal j) ≡ true → member (T ++ V) (terminal (w ++ j)) ≡ true
  or_heads u w j a (this h) i = member_left T V (terminal (w ++ j)) (f.heads.heads u w j a h i)
  or_heads u w j a (that h) i = member_right T V (terminal (w ++ j)) (g.heads.heads u w j a h i)

  pub either_law : Law n m (Or Q R) (T ++ V) S (λ s i. (if K (terminal i) then F s else G s) i) (λ s i. (if K (terminal i) then F' s else G' s) i)
  either_law = record {
    reads = record { reads = λ u i le. or_reads u i le (K (terminal i)) };
    takes = record { takes = or_takes };
    alike = record { alike = or_alike };
    ends = record { ends = λ u. let e = f.ends.ends u in (e.0, e.1, this e.2) };
    heads = record { heads = or_heads };
  }

-- ---- a token that may be there

pub data Chosen {A B : Type 0} (f : Terminal → Option A) (Q : A → Word → Word → B → Type 0) (R : Word → Word → B → Type 0) (u : Word) : Word → B → Type 0 where
  found : (t : Lexeme) {a : A} {y : Word} {b : B} → f t.terminal ≡ Some a → Q a (u ++ t ∷ []) y b → Chosen f Q R u (t ∷ y) b
  missing : {y : Word} {b : B} → R u y b → Chosen f Q R u y b

abbrev pub chosen_by : {A B : Type 0} → (A → Word → Parser B) → (Word → Parser B) → Option A → Word → Parser B
chosen_by F G (Some a) s i = F a s (next i)
chosen_by F G None s i = G s i

-- the next token's value, and the rule that goes on behind it, or the other rule
abbrev pub chosen : {A B : Type 0} → (Terminal → Option A) → (A → Word → Parser B) → (Word → Parser B) → Word → Parser B
chosen f F G s i = chosen_by F G (f (terminal i)) s i

abbrev pub is_none : {A : Type 0} → Option A → Bool
is_none None = true
is_none (Some a) = false

pub none_is : {A : Type 0} (o : Option A) → is_none o ≡ true → o ≡ None
none_is None e = refl
none_is (Some a) e = cc

module _ {A B : Type 0} {n m n' m' : ℕ} {Q : A → Word → Word → B → Type 0} {R : Word → Word → B → Type 0} {F F' : A → Word → Parser B} {G G' : Word → Parser B} {T V S : List Terminal} (f : Terminal → Option A)
    (never : f the.Nothing ≡ None) (ln : n ≤ suc n') (lm : m ≤ suc m') (K : List Terminal) (terminals : (kd : Terminal) (a : A) → f kd ≡ Some a → member K kd ≡ true)
    (q : (kd : Terminal) (a : A) → f kd ≡ Some a → Law n' m' (Q a) T S (F a) (F' a)) (g : Law n m R V S G G') (other : each (λ kd. is_none (f kd)) V ≡ true) where
  chosen_turn : (a : A) (u w : Word) (b : B) → First (λ z. f z.terminal ≡ Some a) (λ _. Q a) u w b → Chosen f Q R u w b
  chosen_turn a u w b (first_token t e h) = found t e h

  chosen_read : (u : Word) (t : Lexeme) (ts : Word) → length (t ∷ ts) ≤ n → (o : Option A) → f t.terminal ≡ o → Meets (Chosen f Q R) u (t ∷ ts) (chosen_by F G o (u ++ t ∷ ts) (t ∷ ts))
  chosen_read u t ts le (Some a) e = weaker (chosen_turn a u) (behind {K = λ z. f z.terminal ≡ Some a} (λ _. Q a) t e (q t.terminal a e).reads (omega (arith, le, ln)))
  chosen_read u t ts le None e = weaker (λ w a h. missing h) (g.reads.reads u (t ∷ ts) le)

  chosen_reads : (u i : Word) → length i ≤ n → Meets (Chosen f Q R) u i (chosen f F G (u ++ i) i)
  chosen_reads u [] le = subst (λ o. Meets (Chosen f Q R) u [] (chosen_by F G o (u ++ []) [])) (sym never) (weaker (λ w a h. missing h) (g.reads.reads u [] le))
  chosen_reads u (t ∷ ts) le = chosen_read u t ts le (f t.terminal) refl

  chosen_takes : (u w j : Word) (b : B) → Chosen f Q R u w b → length w ≤ n → member S (terminal j) ≡ true → chosen f F G (u ++ (w ++ j)) (w ++ j) ≡ Ok (b, j)
  chosen_takes u _ j b (found t {a} {y} e h) le i =
      ap (λ o. chosen_by F G o (u ++ t ∷ (y ++ j)) (t ∷ (y ++ j))) e ∙ ap (λ z. F a z (y ++ j)) (sym (seam u t (y ++ j)))
      ∙ (q t.terminal a e).takes.takes (u ++ t ∷ []) y j b h (omega (arith, le, ln)) i
  chosen_takes u w j b (missing h) le i =
      ap (λ o. chosen_by F G o (u ++ (w ++ j)) (w ++ j)) (none_is (f (terminal (w ++ j))) (each_at (λ kd. is_none (f kd)) (terminal (w ++ j)) V other (g.heads.heads u w j b h i)))
      ∙ g.takes.takes u w j b h le i

  chosen_once : (u r r' : Word) (x : Lexeme) (o : Option B) → length (x ∷ r) ≤ n → 0 < m → (p : Option A) → f x.terminal ≡ p → chosen_by F G p (u ++ x ∷ r) (x ∷ r) ≡ stops o (x ∷ r) → chosen_by F' G' p (u ++ x ∷ r') (x ∷ r') ≡ stops o (x ∷ r')
  chosen_once u r r' x o le lt (Some a) i e = behind_not {n = n} {m = m} ln lm (q x.terminal a i).reads (q x.terminal a i).alike u r x o le e
  chosen_once u r r' x o le lt None i e = g.alike.alike u [] r r' x o le lt e

  chosen_later : (u w r r' : Word) (t x : Lexeme) (o : Option B) → length (t ∷ (w ++ x ∷ r)) ≤ n → length (t ∷ w) < m → (p : Option A) → f t.terminal ≡ p → chosen_by F G p (u ++ t ∷ (w ++ x ∷ r)) (t ∷ (w ++ x ∷ r)) ≡ stops o (x ∷ r)
      → chosen_by F' G' p (u ++ t ∷ (w ++ x ∷ r')) (t ∷ (w ++ x ∷ r')) ≡ stops o (x ∷ r')
  chosen_later u w r r' t x o le lt (Some a) i e = behind_alike {n = n} {m = m} ln lm (q t.terminal a i).reads (q t.terminal a i).alike u w r r' t x o le lt e
  chosen_later u w r r' t x o le lt None i e = g.alike.alike u (t ∷ w) r r' x o le lt e

  chosen_alike : (u w r r' : Word) (x : Lexeme) (o : Option B) → length (w ++ x ∷ r) ≤ n → length w < m → chosen f F G (u ++ (w ++ x ∷ r)) (w ++ x ∷ r) ≡ stops o (x ∷ r) → chosen f F' G' (u ++ (w ++ x ∷ r')) (w ++ x ∷ r') ≡ stops o (x ∷ r')
  chosen_alike u [] r r' x o le lt e = chosen_once u r r' x o le lt (f x.terminal) refl e
  chosen_alike u (t ∷ w) r r' x o le lt e = chosen_later u w r r' t x o le lt (f t.terminal) refl e

  chosen_heads : (u w j : Word) (b : B) → Chosen f Q R u w b → member S (terminal j) ≡ true → member (K ++ V) (terminal (w ++ j)) ≡ true
  chosen_heads u _ j b (found t {a} e h) i = member_left K V t.terminal (terminals t.terminal a e)
  chosen_heads u w j b (missing h) i = member_right K V (terminal (w ++ j)) (g.heads.heads u w j b h i)

  pub chosen_law : Law n m (Chosen f Q R) (K ++ V) S (chosen f F G) (chosen f F' G')
  chosen_law = record {
    reads = record { reads = chosen_reads };
    takes = record { takes = chosen_takes };
    alike = record { alike = chosen_alike };
    ends = record { ends = λ u. let e = g.ends.ends u in (e.0, e.1, missing e.2) };
    heads = record { heads = chosen_heads };
  }

-- ---- a token of one terminal

abbrev pub flagged : Bool → Option (Unit {0})
flagged true = Some tt
flagged false = None

abbrev pub only : Terminal → Terminal → Option (Unit {0})
only kd x = flagged (same_terminal x kd)

pub only_is : (kd x : Terminal) (a : Unit {0}) → only kd x ≡ Some a → x ≡ kd
only_is kd x a e = go (same_terminal x kd) refl e
  where
    go : (b : Bool) → same_terminal x kd ≡ b → flagged b ≡ Some a → x ≡ kd
    go true f e = is_terminal x kd f
    go false f e = cc

pub is_only : (kd x : Terminal) → x ≡ kd → only kd x ≡ Some tt
is_only kd x e = ap flagged (is_same x kd e)

eaten_is : {B : Type 0} (kd : Terminal) (F G : Word → Parser B) (s i : Word) → (if sees kd i then F s else G s) (after kd i) ≡ chosen (only kd) (λ _. F) G s i
unfolding sees after
eaten_is {B} kd F G s i = go (same_terminal (terminal i) kd)
  where
    go : (b : Bool) → (if b then F s else G s) (if b then next i else i) ≡ chosen_by (λ (_ : Unit {0}). F) G (flagged b) s i
    go true = refl
    go false = refl

-- whether it stands there
pub eaten_law : {B : Type 0} {n m n' m' : ℕ} {Q R : Word → Word → B → Type 0} {F F' G G' : Word → Parser B} {T V S : List Terminal} (kd : Terminal) → only kd the.Nothing ≡ None → n ≤ suc n' → m ≤ suc m'
    → Law n' m' Q T S F F' → Law n m R V S G G' → each (λ x. is_none (only kd x)) V ≡ true
    → Law n m (Chosen (only kd) (λ _. Q) R) (kd ∷ V) S (λ s i. (if sees kd i then F s else G s) (after kd i)) (λ s i. (if sees kd i then F' s else G' s) (after kd i))
eaten_law {n' = n'} {m' = m'} {F = F} {F' = F'} {G = G} {G' = G'} kd never ln lm q g other =
    like (λ s i. eaten_is kd F G s i) (λ s i. eaten_is kd F' G' s i)
    (chosen_law {n' = n'} {m' = m'} (only kd) never ln lm (kd ∷ []) (λ x a e. alone x kd (only_is kd x a e)) (λ _ _ _. q) g other)

-- it has to stand there
abbrev pub word_of : Terminal → Lexeme → Option (Unit {0})
word_of kd t = only kd t.terminal

abbrev pub One : Terminal → Word → Word → Unit {0} → Type 0
One kd = Token (word_of kd)

abbrev pub token_of : Terminal → Lexeme
token_of kd = record { terminal = kd; text = []; span = record { start = 0; end = 0 } }

abbrev expected : Bool → Word → Word → Outcome (Unit {0})
expected true ts i = Ok (tt, ts)
expected false ts i = Err i

expect_reader : (kd : Terminal) → only kd the.Nothing ≡ None → Reader (word_of kd) (expect kd)
unfolding expect sees
expect_reader kd never = record { nil = nil (same_terminal the.Nothing kd) never; cons = λ t ts. cons t ts (same_terminal t.terminal kd) }
  where
    nil : (b : Bool) → flagged b ≡ None → (if b then expected true [] [] else expected false [] []) ≡ Err []
    nil true e = cc
    nil false e = refl

    cons : (t : Lexeme) (ts : Word) (b : Bool) → (if b then expected true ts (t ∷ ts) else expected false ts (t ∷ ts)) ≡ token_by (flagged b) (t ∷ ts) ts
    cons t ts true = refl
    cons t ts false = refl

pub expect_law : {n m : ℕ} {S : List Terminal} (kd : Terminal) → only kd the.Nothing ≡ None → Law n m (One kd) (kd ∷ []) S (λ s. expect kd) (λ s. expect kd)
expect_law {S = S} kd never =
    token_law (word_of kd) (expect kd) (expect_reader kd never) (token_of kd) tt (is_only kd kd refl) (kd ∷ []) (λ t a e. alone t.terminal kd (only_is kd t.terminal a e)) S

pub within_all : (xs ys : List Terminal) → ((kd : Terminal) → member xs kd ≡ true → member ys kd ≡ true) → within xs ys ≡ true
within_all [] ys f = refl
within_all (x ∷ xs) ys f =
    ap (λ b. if b then within xs ys else false) (f x (ap (λ b. if b then true else member xs x) (is_same x x refl)))
    ∙ within_all xs ys (λ kd h. f kd (member_right (x ∷ []) xs kd h))

pub within_self : (xs : List Terminal) → within xs xs ≡ true
within_self xs = within_all xs xs (λ kd h. h)

-- a token of this terminal and what comes behind it
pub word_then : {B : Type 0} {n m : ℕ} {Q : Word → Word → B → Type 0} {F F' : Word → Parser B} {V S : List Terminal} (kd : Terminal) → only kd the.Nothing ≡ None → Law n m Q V S F F'
    → Law n m (Then (One kd) (λ _. Q)) (kd ∷ []) S (λ s i. and_then (expect kd i) (λ _. F s)) (λ s i. and_then (expect kd i) (λ _. F' s))
word_then {V = V} kd never q = then_law {U = V} (expect_law kd never) (λ _. q) (within_self V)

one_some : (kd : Terminal) (u w : Word) (a : Unit {0}) → One kd u w a → 0 < length w
one_some kd u _ a (a_token t e) = omega arith

-- the same, where what comes behind it has fewer tokens
pub word_less : {B : Type 0} {n m : ℕ} {Q : Word → Word → B → Type 0} {F F' : Word → Parser B} {V S : List Terminal} (kd : Terminal) → only kd the.Nothing ≡ None → Law n m Q V S F F'
    → Law (suc n) (suc m) (Then (One kd) (λ _. Q)) (kd ∷ []) S (λ s i. and_then (expect kd i) (λ _. F s)) (λ s i. and_then (expect kd i) (λ _. F' s))
word_less {V = V} kd never q = then_less {U = V} (one_some kd) (expect_law kd never) (λ _. q) (within_self V)

-- a rule that a token closes
pub data Closed {A : Type 0} (X : Word → A → Type 0) (kd : Terminal) (u : Word) : Word → A → Type 0 where
  closed : {w : Word} {a : A} (b : Lexeme) → X w a → b.terminal ≡ kd → Closed X kd u (w ++ b ∷ []) a

closes : {A : Type 0} (X : Word → A → Type 0) (kd : Terminal) (u w : Word) (a : A) → Then (λ u. X) (λ a. Then (One kd) (λ _. Is a)) u w a → Closed X kd u w a
closes X kd u w a (both x (both (a_token b {a = t} e) is)) = closed b x (only_is kd b.terminal t e)

is_closed : {A : Type 0} (X : Word → A → Type 0) (kd : Terminal) (u w : Word) (a : A) → Closed X kd u w a → Then (λ u. X) (λ a. Then (One kd) (λ _. Is a)) u w a
is_closed X kd u _ a (closed b x e) = both x (both (a_token b (is_only kd b.terminal e)) is)

pub closing_law : {A : Type 0} {n m : ℕ} {X : Word → A → Type 0} {p p' : Parser A} {T U : List Terminal} {S : List Terminal} (kd : Terminal) → only kd the.Nothing ≡ None → Law n m (λ u. X) T U (λ s. p) (λ s. p')
    → within (kd ∷ []) U ≡ true → Law n m (Closed X kd) T S (λ s i. and_then (p i) (λ a j. and_then (expect kd j) (λ _. pure a))) (λ s i. and_then (p' i) (λ a j. and_then (expect kd j) (λ _. pure a)))
closing_law {X = X} {U = U} {S = S} kd never r sub = shaped (closes X kd) (is_closed X kd) (then_law {U = U} r (λ a. word_then kd never (pure_law {S = S} a)) sub)

-- ---- a rule that is tried only where its first token is next

module _ {A : Type 0} {n m : ℕ} {R : Word → Word → A → Type 0} {F F' : Word → Parser A} {T S : List Terminal} (K : Terminal → Bool) (f : Law n m R T S F F') (yes_there : each K T ≡ true) where
  guard_reads : (u i : Word) → length i ≤ n → (b : Bool) → Meets R u i ((if b then F (u ++ i) else (λ i. Err i)) i)
  guard_reads u i le true = f.reads.reads u i le
  guard_reads u i le false = let e = f.ends.ends u in stuck_here e.0 e.1 e.2

  guard_by : (u w r r' : Word) (x : Lexeme) (o : Option A) → length (w ++ x ∷ r) ≤ n → length w < m → (b : Bool)
      → (if b then F (u ++ (w ++ x ∷ r)) else (λ i. Err i)) (w ++ x ∷ r) ≡ stops o (x ∷ r) → (if b then F' (u ++ (w ++ x ∷ r')) else (λ i. Err i)) (w ++ x ∷ r') ≡ stops o (x ∷ r')
  guard_by u w r r' x o le lt true e = f.alike.alike u w r r' x o le lt e
  guard_by u w r r' x o le lt false e = refuse_at w r r' x o e

  guard_alike : (u w r r' : Word) (x : Lexeme) (o : Option A) → length (w ++ x ∷ r) ≤ n → length w < m
      → (if K (terminal (w ++ x ∷ r)) then F (u ++ (w ++ x ∷ r)) else (λ i. Err i)) (w ++ x ∷ r) ≡ stops o (x ∷ r)
      → (if K (terminal (w ++ x ∷ r')) then F' (u ++ (w ++ x ∷ r')) else (λ i. Err i)) (w ++ x ∷ r') ≡ stops o (x ∷ r')
  guard_alike u [] r r' x o le lt e = guard_by u [] r r' x o le lt (K x.terminal) e
  guard_alike u (t ∷ w) r r' x o le lt e = guard_by u (t ∷ w) r r' x o le lt (K t.terminal) e

  pub guarded_law : Law n m R T S (λ s i. (if K (terminal i) then F s else (λ i. Err i)) i) (λ s i. (if K (terminal i) then F' s else (λ i. Err i)) i)
  guarded_law = record {
    reads = record { reads = λ u i le. guard_reads u i le (K (terminal i)) };
    takes = record {
      takes = λ u w j a h le i.
          ap (λ b. (if b then F (u ++ (w ++ j)) else (λ i. Err i)) (w ++ j)) (each_at K (terminal (w ++ j)) T yes_there (f.heads.heads u w j a h i)) ∙ f.takes.takes u w j a h le i;
    };
    alike = record { alike = guard_alike };
    ends = f.ends;
    heads = f.heads;
  }

-- ---- where nothing is left of a bound

pub same_read : {A : Type 0} {n m : ℕ} {R : Word → Word → A → Type 0} {T S : List Terminal} {P P' Q' : Word → Parser A} → Law n m R T S P P' → Law n 0 R T S P Q'
same_read h = record { reads = h.reads; takes = h.takes; alike = none_right; ends = h.ends; heads = h.heads }

-- a rule whose words are not empty
pub refused_law : {A : Type 0} {m : ℕ} {X : Word → A → Type 0} {T S : List Terminal} {P' : Word → Parser A} (w : Word) (a : A) → X w a → ((w : Word) (a : A) → X w a → 0 < length w)
    → ((w j : Word) (a : A) → X w a → member T (terminal (w ++ j)) ≡ true) → Law 0 m (λ u. X) T S (λ s i. Err i) P'
refused_law {X = X} w a x some first = record {
  reads = record { reads = λ u i le. stuck_here w a x };
  takes = record { takes = λ u w j a h le i. let never : ⊥ = omega (arith, le, some w a h) in absurd never };
  alike = none_left;
  ends = record { ends = λ u. (w, a, x) };
  heads = record { heads = λ u w j a h i. first w j a h };
}

-- whether a word stands there
eat_is : (kd : Terminal) (s i : Word) → eat kd i ≡ (if sees kd i then (λ (s : Word). pure true) s else (λ (s : Word). pure false) s) (after kd i)
unfolding sees after
eat_is kd s i = go (same_terminal (terminal i) kd)
  where
    go : (b : Bool) → pure b (if b then next i else i) ≡ (if b then pure true else pure false) (if b then next i else i)
    go true = refl
    go false = refl

pub flag_law : {n m : ℕ} (S : List Terminal) (kd : Terminal) → only kd the.Nothing ≡ None → each (λ x. is_none (only kd x)) S ≡ true → Law n m (λ u. Flag kd) (kd ∷ S) S (λ s. eat kd) (λ s. eat kd)
flag_law {n = n} {m = m} S kd never other =
    like (λ s i. eat_is kd s i) (λ s i. eat_is kd s i) (shaped goes comes (eaten_law {n' = n} {m' = m} kd never (omega arith) (omega arith) (pure_law {S = S} true) (pure_law {S = S} false) other))
  where
    goes : (u w : Word) (b : Bool) → Chosen (only kd) (λ _. Is true) (Is false) u w b → Flag kd w b
    goes u w b (found t {a = a} e is) = present t (only_is kd t.terminal a e)
    goes u w b (missing is) = absent

    comes : (u w : Word) (b : Bool) → Flag kd w b → Chosen (only kd) (λ _. Is true) (Is false) u w b
    comes u _ _ absent = missing is
    comes u _ _ (present t e) = found t (is_only kd t.terminal e) is
