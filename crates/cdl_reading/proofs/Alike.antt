-- Where a rule stops at a token, the tokens behind that one play no part, nor does how much is left of the bounds.
use Rattle.std.proofs.Common.{◌≡◌, ℕ, suc, ◌+◌, ◌≤◌, ◌<◌, [], ◌∷◌, ◌++◌, length, Option, Some, None, Ok, Err, refl, sym, ap, ◌∙◌, subst, arith, append_assoc, length-append}
use Rattle.std.proofs.lemmas.List.{append_cancel_right}
use Rattle.cdl_tree.specs.Words.{Lexeme, Word}
use Rattle.cdl_reading.specs.Reading.{Outcome, Parser, and_then, pure, made}
use Rattle.cdl_reading.proofs.Steps.{Shape, Meets, Reads, since_is, seam}

-- the outcome that stops at j: with a value, or stuck
abbrev pub stops : {A : Type 0} → Option A → Word → Outcome A
stops (Some a) j = Ok (a, j)
stops None j = Err j

pub record Alike {A : Type 0} (n m : ℕ) (P P' : Word → Parser A) : Type 0 where
  pub alike : (u w r r' : Word) (x : Lexeme) (o : Option A) → length (w ++ x ∷ r) ≤ n → length w < m
      → P (u ++ (w ++ x ∷ r)) (w ++ x ∷ r) ≡ stops o (x ∷ r) → P' (u ++ (w ++ x ∷ r')) (w ++ x ∷ r') ≡ stops o (x ∷ r')

pub front : {A : Type 0} (R : Word → Word → A → Type 0) (u i : Word) (o : Option A) (j : Word) → Shape R u i (stops o j) → (w : Word) × (i ≡ w ++ j)
front R u i (Some a) j s = (s.0, s.1)
front R u i None j s = (s.0, s.3)

pub never_back : (w r : Word) (x : Lexeme) → r ≡ w ++ x ∷ r → ⊥
never_back w r x e = omega (arith, ap length e, length-append w (x ∷ r))

-- a rule that began behind a token doesn't stop at it
pub not_here : {B : Type 0} {n : ℕ} {Q : Word → Word → B → Type 0} {F : Word → Parser B} (u r : Word) (x : Lexeme) (o : Option B) → Reads n Q F → length r ≤ n → F (u ++ x ∷ r) r ≡ stops o (x ∷ r) → ⊥
not_here {B} {n} {Q} {F} u r x o h le e =
    let m = subst (λ z. Meets Q (u ++ x ∷ []) r (F z r)) (seam u x r) (h.reads (u ++ x ∷ []) r le) in
    let f = front Q (u ++ x ∷ []) r o (x ∷ r) (subst (Shape Q (u ++ x ∷ []) r) e m.shape) in
    never_back f.0 r x f.1

pub past : {A : Type 0} {n m : ℕ} {P P' : Word → Parser A} → Alike n m P P' → (u v w r r' : Word) (x : Lexeme) (a : A) → length (v ++ (w ++ x ∷ r)) ≤ n → length v < m
    → P (u ++ (v ++ (w ++ x ∷ r))) (v ++ (w ++ x ∷ r)) ≡ Ok (a, w ++ x ∷ r) → P' (u ++ (v ++ (w ++ x ∷ r'))) (v ++ (w ++ x ∷ r')) ≡ Ok (a, w ++ x ∷ r')
past h u v [] r r' x a le lt e = h.alike u v r r' x (Some a) le lt e
past h u v (y ∷ w) r r' x a le lt e = h.alike u v (w ++ x ∷ r) (w ++ x ∷ r') y (Some a) le lt e

module _ {A B : Type 0} {n m n' m' : ℕ} {R : Word → Word → A → Type 0} {Q : A → Word → Word → B → Type 0} {P P' : Word → Parser A} {F F' : A → Word → Parser B}
    (less : (u w : Word) (a : A) → R u w a → (n ≤ n' + length w) × (m ≤ m' + length w)) (p : Reads n R P) (f : (a : A) → Reads n' (Q a) (F a)) (same : Alike n m P P') (then_same : (a : A) → Alike n' m' (F a) (F' a)) where
  pub second : (u v w r r' : Word) (x : Lexeme) (o : Option B) (a : A) → R u v a → length (v ++ (w ++ x ∷ r)) ≤ n → length (v ++ w) < m
      → P (u ++ (v ++ (w ++ x ∷ r))) (v ++ (w ++ x ∷ r)) ≡ Ok (a, w ++ x ∷ r) → F a (u ++ (v ++ (w ++ x ∷ r))) (w ++ x ∷ r) ≡ stops o (x ∷ r)
      → and_then (P' (u ++ (v ++ (w ++ x ∷ r'))) (v ++ (w ++ x ∷ r'))) (λ a. F' a (u ++ (v ++ (w ++ x ∷ r')))) ≡ stops o (x ∷ r')
  second u v w r r' x o a h le lt e g =
      let bounds = less u v a h in
      let first = past same u v w r r' x a le (omega (arith, lt, length-append v w)) e in
      let behind = (then_same a).alike (u ++ v) w r r' x o (omega (arith, le, bounds.0, length-append v (w ++ x ∷ r))) (omega (arith, lt, bounds.1, length-append v w))
      (subst (λ z. F a z (w ++ x ∷ r) ≡ stops o (x ∷ r)) (sym (append_assoc u v (w ++ x ∷ r))) g) in
      ap (λ z. and_then z (λ a. F' a (u ++ (v ++ (w ++ x ∷ r'))))) first
      ∙ subst (λ z. F' a z (w ++ x ∷ r') ≡ stops o (x ∷ r')) (append_assoc u v (w ++ x ∷ r')) behind

  pub turn : (u w r r' : Word) (x : Lexeme) (o : Option B) → length (w ++ x ∷ r) ≤ n → length w < m → (s : Outcome A) → P (u ++ (w ++ x ∷ r)) (w ++ x ∷ r) ≡ s → Shape R u (w ++ x ∷ r) s
      → and_then s (λ a. F a (u ++ (w ++ x ∷ r))) ≡ stops o (x ∷ r) → and_then (P' (u ++ (w ++ x ∷ r')) (w ++ x ∷ r')) (λ a. F' a (u ++ (w ++ x ∷ r'))) ≡ stops o (x ∷ r')
  turn u w r r' x (Some b) le lt (Err j) e t g = cc
  turn u w r r' x None le lt (Err j) e t g =
      let at : j ≡ x ∷ r = cc in
      ap (λ z. and_then z (λ a. F' a (u ++ (w ++ x ∷ r')))) (same.alike u w r r' x None le lt (e ∙ ap (λ z. Err z) at))
  turn u w r r' x o le lt (Ok q) e t g =
      let v = t.0 in
      let whole : (u ++ v) ++ q.1 ≡ u ++ (w ++ x ∷ r) = append_assoc u v q.1 ∙ ap (λ z. u ++ z) (sym t.1) in
      let short : length q.1 ≤ n' = omega (arith, le, (less u v q.0 t.2).0, ap length t.1, length-append v q.1) in
      let shape = (subst (λ z. Meets (Q q.0) (u ++ v) q.1 (F q.0 z q.1)) whole ((f q.0).reads (u ++ v) q.1 short)).shape in
      let rest = front (Q q.0) (u ++ v) q.1 o (x ∷ r) (subst (Shape (Q q.0) (u ++ v) q.1) g shape) in
      let split : w ≡ v ++ rest.0 = append_cancel_right w (v ++ rest.0) (x ∷ r) (t.1 ∙ ap (λ z. v ++ z) rest.1 ∙ sym (append_assoc v rest.0 (x ∷ r))) in
      let at : w ++ x ∷ r ≡ v ++ (rest.0 ++ x ∷ r) = ap (λ z. z ++ x ∷ r) split ∙ append_assoc v rest.0 (x ∷ r) in
      let at' : w ++ x ∷ r' ≡ v ++ (rest.0 ++ x ∷ r') = ap (λ z. z ++ x ∷ r') split ∙ append_assoc v rest.0 (x ∷ r') in
      let done = second u v rest.0 r r' x o q.0 t.2 (subst (λ z. length z ≤ n) at le) (subst (λ z. length z < m) split lt)
      (subst (λ z. P (u ++ z) z ≡ Ok (q.0, rest.0 ++ x ∷ r)) at (e ∙ ap (λ z. Ok (q.0, z)) rest.1))
      (subst (λ z. F q.0 (u ++ z) (rest.0 ++ x ∷ r) ≡ stops o (x ∷ r)) at (subst (λ z. F q.0 (u ++ (w ++ x ∷ r)) z ≡ stops o (x ∷ r)) rest.1 g)) in
      subst (λ z. and_then (P' (u ++ z) z) (λ a. F' a (u ++ z)) ≡ stops o (x ∷ r')) (sym at') done

  pub alike_turn : Alike n m (λ s i. and_then (P s i) (λ a. F a s)) (λ s i. and_then (P' s i) (λ a. F' a s))
  alike_turn = record { alike = λ u w r r' x o le lt e. turn u w r r' x o le lt (P (u ++ (w ++ x ∷ r)) (w ++ x ∷ r)) refl (p.reads u (w ++ x ∷ r) le).shape e }

pub fewer_alike : {A : Type 0} {n m n' m' : ℕ} {P P' : Word → Parser A} → n' ≤ n → m' ≤ m → Alike n m P P' → Alike n' m' P P'
fewer_alike ln lm h = record { alike = λ u w r r' x o le lt e. h.alike u w r r' x o (omega (arith, le, ln)) (omega (arith, lt, lm)) e }

-- ---- the steps

pub nil_of : (w r : Word) (x : Lexeme) → w ++ x ∷ r ≡ x ∷ r → w ≡ []
nil_of w r x e = append_cancel_right w [] (x ∷ r) e

abbrev pub read_as : {A : Type 0} → A × Word → Outcome A
read_as p = Ok p

pub same_pair : {A : Type 0} (p q : A × Word) → read_as p ≡ read_as q → p ≡ q
same_pair p q e = cc

pub pure_at : {A : Type 0} (a : A) (w r r' : Word) (x : Lexeme) (o : Option A) → Ok (a, w ++ x ∷ r) ≡ stops o (x ∷ r) → Ok (a, w ++ x ∷ r') ≡ stops o (x ∷ r')
pure_at a w r r' x None e = cc
pure_at a w r r' x (Some b) e =
    let both = same_pair _ _ e in
    let none : w ≡ [] = nil_of w r x (ap (λ z. z.1) both) in
    let value : a ≡ b = ap (λ z. z.0) both in
    ap (λ z. Ok (z, w ++ x ∷ r')) value ∙ ap (λ z. Ok (b, z ++ x ∷ r')) none

pub pure_alike : {A : Type 0} {n m : ℕ} (a : A) → Alike n m (λ s. pure a) (λ s. pure a)
pure_alike a = record { alike = λ u w r r' x o le lt e. pure_at a w r r' x o e }

pub made_alike : {A : Type 0} {n m : ℕ} (f : Word → A) → Alike n m (λ s. made f s) (λ s. made f s)
unfolding made
made_alike f = record {
  alike = λ u w r r' x o le lt e.
      ap (λ z. Ok (f z, w ++ x ∷ r')) (since_is u (w ++ x ∷ r'))
      ∙ pure_at (f u) w r r' x o (sym (ap (λ z. Ok (f z, w ++ x ∷ r)) (since_is u (w ++ x ∷ r))) ∙ e);
}

pub begun_alike : {A : Type 0} {n m : ℕ} {F F' : Word → Parser A} → Alike n m F F' → Alike n m (λ s i. F i i) (λ s i. F' i i)
begun_alike h = record { alike = λ u w r r' x o le lt e. h.alike [] w r r' x o le lt e }

-- a rule that refuses whatever comes
pub refuse_at : {A : Type 0} (w r r' : Word) (x : Lexeme) (o : Option A) → Err (w ++ x ∷ r) ≡ stops o (x ∷ r) → Err (w ++ x ∷ r') ≡ stops o (x ∷ r')
refuse_at w r r' x (Some b) e = cc
refuse_at w r r' x None e = let same : w ++ x ∷ r ≡ x ∷ r = cc in ap (λ z. Err (z ++ x ∷ r')) (nil_of w r x same)

module _ {B : Type 0} {n m n' m' : ℕ} {Q : Word → Word → B → Type 0} {F F' : Word → Parser B} (ln : n ≤ suc n') (lm : m ≤ suc m') (f : Reads n' Q F) (same : Alike n' m' F F') where
  -- the rule began behind a token t
  pub behind_alike : (u w r r' : Word) (t x : Lexeme) (o : Option B) → length (t ∷ (w ++ x ∷ r)) ≤ n → length (t ∷ w) < m → F (u ++ t ∷ (w ++ x ∷ r)) (w ++ x ∷ r) ≡ stops o (x ∷ r)
      → F' (u ++ t ∷ (w ++ x ∷ r')) (w ++ x ∷ r') ≡ stops o (x ∷ r')
  behind_alike u w r r' t x o le lt e =
      subst (λ z. F' z (w ++ x ∷ r') ≡ stops o (x ∷ r')) (seam u t (w ++ x ∷ r'))
      (same.alike (u ++ t ∷ []) w r r' x o (omega (arith, le, ln)) (omega (arith, lt, lm)) (subst (λ z. F z (w ++ x ∷ r) ≡ stops o (x ∷ r)) (sym (seam u t (w ++ x ∷ r))) e))

  pub behind_not : {Z : Type 0} (u r : Word) (x : Lexeme) (o : Option B) → length (x ∷ r) ≤ n → F (u ++ x ∷ r) r ≡ stops o (x ∷ r) → Z
  behind_not u r x o le e = absurd (not_here u r x o f (omega (arith, le, ln)) e)

-- where nothing is left of the bounds
pub none_left : {A : Type 0} {m : ℕ} {P P' : Word → Parser A} → Alike 0 m P P'
none_left = record { alike = λ u w r r' x o le lt e. let never : ⊥ = omega (arith, le, length-append w (x ∷ r)) in absurd never }

pub none_right : {A : Type 0} {n : ℕ} {P P' : Word → Parser A} → Alike n 0 P P'
none_right = record { alike = λ u w r r' x o le lt e. let never : ⊥ = omega (arith, lt) in absurd never }
