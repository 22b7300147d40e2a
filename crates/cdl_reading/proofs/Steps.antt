-- What an outcome says of a relation between words and values, step by step.
-- A relation R u w a has a first word u: what was read since the production's start.
use Rattle.std.proofs.Common.{◌≡◌, ℕ, ◌-◌, ◌≤◌, true, [], ◌∷◌, ◌++◌, length, take, Ok, Err, refl, sym, ap, ◌∙◌, subst, arith, append_assoc, length-append, add-sub_cancel}
use Rattle.std.proofs.Math.Seq.{take-append_seam}
use denote.Enum.Bare.{same_true}
use Rattle.cdl_tree.specs.contracts.terminal.Terminal.{the_type}
use Rattle.cdl_tree.specs.declared.terminal.Terminal.{Terminal}
use Rattle.cdl_tree.specs.Words.{Lexeme, Word, same_terminal}
use Rattle.cdl_reading.specs.Reading.{Outcome, Parser, and_then, pure, since, made}

-- read: a word of R. Stuck: the front of a word of R.
abbrev pub Shape : {A : Type 0} → (Word → Word → A → Type 0) → Word → Word → Outcome A → Type 0
Shape R u i (Ok p) = (w : Word) × (i ≡ w ++ p.1) × R u w p.0
Shape {A} R u i (Err j) = (w v : Word) × (a : A) × (i ≡ w ++ j) × R u (w ++ v) a

pub record Meets {A : Type 0} (R : Word → Word → A → Type 0) (u i : Word) (r : Outcome A) : Type 0 where
  pub shape : Shape R u i r

-- a rule P, which is told where the production began, on at most n tokens
pub record Reads {A : Type 0} (n : ℕ) (R : Word → Word → A → Type 0) (P : Word → Parser A) : Type 0 where
  pub reads : (u i : Word) → length i ≤ n → Meets R u i (P (u ++ i) i)

pub record Ends {A : Type 0} (R : Word → Word → A → Type 0) : Type 0 where
  pub ends : (u : Word) → (v : Word) × (a : A) × R u v a

-- What follows a word of R in at most n tokens is at most m tokens.
pub record Leaves {A : Type 0} (n m : ℕ) (R : Word → Word → A → Type 0) : Type 0 where
  pub leaves : (u x j : Word) (a : A) → R u x a → length (x ++ j) ≤ n → length j ≤ m

-- ---- relations

pub data Then {A B : Type 0} (R : Word → Word → A → Type 0) (Q : A → Word → Word → B → Type 0) (u : Word) : Word → B → Type 0 where
  both : {x y : Word} {a : A} {b : B} → R u x a → Q a (u ++ x) y b → Then R Q u (x ++ y) b

pub data Is {A : Type 0} (a : A) (u : Word) : Word → A → Type 0 where
  is : Is a u [] a

pub data Made {A : Type 0} (f : Word → A) (u : Word) : Word → A → Type 0 where
  is_made : {a : A} → a ≡ f u → Made f u [] a

pub data First {B : Type 0} (K : Lexeme → Type 0) (Q : Lexeme → Word → Word → B → Type 0) (u : Word) : Word → B → Type 0 where
  first : (t : Lexeme) {y : Word} {b : B} → K t → Q t (u ++ t ∷ []) y b → First K Q u (t ∷ y) b

-- ---- weaker, and one after another

pub weaker : {A : Type 0} {R S : Word → Word → A → Type 0} {u i : Word} {r : Outcome A} → ((w : Word) (a : A) → R u w a → S u w a) → Meets R u i r → Meets S u i r
weaker {A} {R} {S} {u} {i} {r} f m = go r m.shape
  where
    go : (r : Outcome A) → Shape R u i r → Meets S u i r
    go (Ok p) t = record { shape = (t.0, t.1, f t.0 p.0 t.2) }
    go (Err j) t = record { shape = (t.0, t.1, t.2, t.3, f (t.0 ++ t.1) t.2 t.4) }

pub weakened : {A : Type 0} {n : ℕ} {R S : Word → Word → A → Type 0} {P : Word → Parser A} → ((u w : Word) (a : A) → R u w a → S u w a) → Reads n R P → Reads n S P
weakened f h = record { reads = λ u i le. weaker (f u) (h.reads u i le) }

pub fewer : {A : Type 0} {n m : ℕ} {R : Word → Word → A → Type 0} {P : Word → Parser A} → n ≤ m → Reads m R P → Reads n R P
fewer le h = record { reads = λ u i few. h.reads u i (omega (arith, few, le)) }

pub on_from : {A B : Type 0} (R : Word → Word → A → Type 0) (Q : A → Word → Word → B → Type 0) (u i x j : Word) (a : A) (r : Outcome B)
    → i ≡ x ++ j → R u x a → Shape (Q a) (u ++ x) j r → Meets (Then R Q) u i r
on_from R Q u i x j a (Ok p) e h m = record { shape = (x ++ m.0, e ∙ ap (λ z. x ++ z) m.1 ∙ sym (append_assoc x m.0 p.1), both h m.2) }
on_from R Q u i x j a (Err k) e h m =
    record { shape = (x ++ m.0, m.1, m.2, e ∙ ap (λ z. x ++ z) m.3 ∙ sym (append_assoc x m.0 k), subst (λ z. Then R Q u z m.2) (sym (append_assoc x m.0 m.1)) (both h m.4)) }

pub in_turn : {A B : Type 0} {n m : ℕ} {R : Word → Word → A → Type 0} {Q : A → Word → Word → B → Type 0} {P : Word → Parser A} {F : A → Word → Parser B}
    → Leaves n m R → Reads n R P → ((a : A) → Reads m (Q a) (F a)) → ((a : A) → Ends (Q a)) → Reads n (Then R Q) (λ s i. and_then (P s i) (λ a. F a s))
in_turn {A} {B} {n} {m} {R} {Q} {P} {F} l p f e = record { reads = λ u i le. go u i le (P (u ++ i) i) ((p.reads u i le).shape) }
  where
    go : (u i : Word) → length i ≤ n → (r : Outcome A) → Shape R u i r → Meets (Then R Q) u i (and_then r (λ a. F a (u ++ i)))
    go u i le (Ok r) t =
        let at : (u ++ t.0) ++ r.1 ≡ u ++ i = append_assoc u t.0 r.1 ∙ ap (λ z. u ++ z) (sym t.1) in
        let rest = (f r.0).reads (u ++ t.0) r.1 (l.leaves u t.0 r.1 r.0 t.2 (subst (λ z. length z ≤ n) t.1 le)) in
        on_from R Q u i t.0 r.1 r.0 (F r.0 (u ++ i) r.1) t.1 t.2
        (subst (λ z. Meets (Q r.0) (u ++ t.0) r.1 (F r.0 z r.1)) at rest).shape
    go u i le (Err j) t =
        let more = (e t.2).ends (u ++ (t.0 ++ t.1)) in
        record { shape = (t.0, t.1 ++ more.0, more.1, t.3, subst (λ z. Then R Q u z more.1) (append_assoc t.0 t.1 more.0) (both t.4 more.2)) }

pub leaves_all : {A : Type 0} {n : ℕ} {R : Word → Word → A → Type 0} → Leaves n n R
leaves_all = record { leaves = λ u x j a h le. omega (arith, le, length-append x j) }

-- where a production begins: what comes before it plays no part
pub begun : {A : Type 0} {n : ℕ} {R : Word → Word → A → Type 0} {F : Word → Parser A} → Reads n R F → Reads n (λ u. R []) (λ s i. F i i)
begun {A} {n} {R} {F} h = record { reads = λ u i le. go u i (F i i) (h.reads [] i le).shape }
  where
    go : (u i : Word) (r : Outcome A) → Shape R [] i r → Meets (λ z. R []) u i r
    go u i (Ok p) m = record { shape = m }
    go u i (Err j) m = record { shape = m }

-- ---- the steps

pub pure_reads : {A : Type 0} {n : ℕ} (a : A) → Reads n (Is a) (λ s. pure a)
pure_reads a = record { reads = λ u i le. record { shape = ([], refl, is) } }

pub pure_ends : {A : Type 0} (a : A) → Ends (Is a)
pure_ends a = record { ends = λ u. ([], a, is) }

pub since_is : (u i : Word) → since (u ++ i) i ≡ u
since_is u i =
    let n : length (u ++ i) - length i ≡ length u = rw length-append (add-sub_cancel (length u) (length i)) in
    ap (λ k. take k (u ++ i)) n ∙ take-append_seam u i

pub made_reads : {A : Type 0} {n : ℕ} (f : Word → A) → Reads n (Made f) (λ s. made f s)
unfolding made
made_reads f = record { reads = λ u i le. record { shape = ([], refl, is_made (ap f (since_is u i))) } }

pub made_ends : {A : Type 0} (f : Word → A) → Ends (Made f)
made_ends f = record { ends = λ u. ([], f u, is_made refl) }

pub seam : (u : Word) (t : Lexeme) (ts : Word) → (u ++ t ∷ []) ++ ts ≡ u ++ t ∷ ts
seam u t ts = append_assoc u (t ∷ []) ts

-- a token in front, of which K is known
pub behind : {B : Type 0} {n : ℕ} {K : Lexeme → Type 0} (Q : Lexeme → Word → Word → B → Type 0) {F : Word → Parser B} {u : Word} (t : Lexeme) {ts : Word}
    → K t → Reads n (Q t) F → length ts ≤ n → Meets (First K Q) u (t ∷ ts) (F (u ++ t ∷ ts) ts)
behind {B} {n} {K} Q {F} {u} t {ts} e h le = go (F (u ++ t ∷ ts) ts) (subst (λ z. Meets (Q t) (u ++ t ∷ []) ts (F z ts)) (seam u t ts) (h.reads (u ++ t ∷ []) ts le)).shape
  where
    go : (r : Outcome B) → Shape (Q t) (u ++ t ∷ []) ts r → Meets (First K Q) u (t ∷ ts) r
    go (Ok p) m = record { shape = (t ∷ m.0, ap (λ z. t ∷ z) m.1, first t e m.2) }
    go (Err j) m = record { shape = (t ∷ m.0, m.1, m.2, ap (λ z. t ∷ z) m.3, first t e m.4) }

pub is_terminal : (a b : Terminal) → same_terminal a b ≡ true → a ≡ b
unfolding same_terminal
is_terminal a b e = same_true the_type tt a b e

-- a rule that refuses whatever comes, where some word of R is known
pub stuck_here : {A : Type 0} {R : Word → Word → A → Type 0} {u i : Word} (v : Word) (a : A) → R u v a → Meets R u i (Err i)
stuck_here v a h = record { shape = ([], v, a, refl, h) }

pub then_ends : {A B : Type 0} {R : Word → Word → A → Type 0} {Q : A → Word → Word → B → Type 0} → Ends R → ((a : A) → Ends (Q a)) → Ends (Then R Q)
then_ends r q = record { ends = λ u. let x = r.ends u in let y = (q x.1).ends (u ++ x.0) in (x.0 ++ y.0, y.1, both x.2 y.2) }
