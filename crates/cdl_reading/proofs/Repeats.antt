-- The laws of loops: steps one after another, and lists with a separator.
use Rattle.std.proofs.Common.{◌≡◌, ℕ, zero, suc, ◌≤◌, ◌<◌, Bool, true, false, not, List, [], ◌∷◌, ◌++◌, length, None, Ok, Err, refl, sym, ap, ◌∙◌, subst, arith, if◌then◌else◌, append_assoc, append-nil, length-append}
use Rattle.cdl_tree.specs.declared.terminal.Terminal.{Terminal}
use Rattle.cdl_tree.specs.declared.terminal.Terminal.TheVariants as the
use Rattle.cdl_tree.specs.Words.{Lexeme, Word, same_terminal}
use Rattle.cdl_reading.specs.Reading.{Outcome, Parser, and_then, pure, terminal, next, sees, after, expect, list_from, list}
use Rattle.cdl_reading.proofs.Steps.{Then, both, Is, is, weakened, pure_reads}
use Rattle.cdl_reading.proofs.Alike.{none_left, none_right}
use Rattle.cdl_reading.proofs.Laws.{member, each, within, within_self, each_at, member_left, member_right, Law, fewer_law, shaped, like, begun_law, pure_law, a_token, turn_law, then_law, then_less, Or, this, that, either_law, is_same, only, only_is, is_only, One, word_then}

-- ---- steps one after another

pub data Repeats {A : Type 0} (Y : A → Word → Word → A → Type 0) : A → Word → Word → A → Type 0 where
  stop : {a : A} {u : Word} → Repeats Y a u [] a
  go : {a b c : A} {u w v : Word} → Y a u w b → Repeats Y b (u ++ w) v c → Repeats Y a u (w ++ v) c

pub snoc : {A : Type 0} {Y : A → Word → Word → A → Type 0} {a b c : A} {u w v : Word} → Repeats Y a u w b → Y b (u ++ w) v c → Repeats Y a u (w ++ v) c
snoc {Y = Y} {c = c} {v = v} (stop {a = a} {u = u}) y =
    subst (λ z. Repeats Y a u z c) (append-nil v) (go (subst (λ z. Y a z v c) (append-nil u) y) stop)
snoc {Y = Y} {c = c} {v = v} (go {a = a} {b = b} {c = d} {u = u} {w = w} {v = x} y r) z =
    subst (λ q. Repeats Y a u q c) (sym (append_assoc w x v)) (go y (snoc r (subst (λ q. Y d q v c) (sym (append_assoc u w x)) z)))

pub fold : {A : Type 0} {Y : A → Word → Word → A → Type 0} (X : Word → A → Type 0) → ((v w : Word) (a b : A) → X v a → Y a v w b → X (v ++ w) b)
    → {a b : A} {u w : Word} → X u a → Repeats Y a u w b → X (u ++ w) b
fold X grow x (stop {a = a} {u = u}) = subst (λ z. X z a) (sym (append-nil u)) x
fold X grow x (go {a = a} {b = b} {c = c} {u = u} {w = w} {v = v} y r) = subst (λ z. X z c) (append_assoc u w v) (fold X grow (grow u w a b x y) r)

-- Where the next token is of K, a step is made.
pub record Loop {A : Type 0} (K : Terminal → Bool) (step : A → Word → Parser A) (loop : ℕ → A → Word → Parser A) : Type 0 where
  pub at_end : (a : A) (s i : Word) → loop zero a s i ≡ pure a i
  pub turn : (n : ℕ) (a : A) (s i : Word) → loop (suc n) a s i ≡ (if K (terminal i) then and_then (step a s i) (λ b. loop n b s) else pure a i)

module _ {A : Type 0} (d d' : ℕ) (K : Terminal → Bool) (step step' : A → Word → Parser A) (loop loop' : ℕ → A → Word → Parser A) (Y : A → Word → Word → A → Type 0) (T S U : List Terminal)
    (l : Loop K step loop) (l' : Loop K step' loop') (some : (a : A) (u w : Word) (b : A) → Y a u w b → 0 < length w) (f : (a : A) → Law d d' (Y a) T U (step a) (step' a))
    (sub : within (T ++ S) U ≡ true) (yes_there : each K T ≡ true) (not_there : each (λ kd. not (K kd)) S ≡ true) where
  repeats_heads : (a : A) (u w j : Word) (b : A) → Repeats Y a u w b → member S (terminal j) ≡ true → member (T ++ S) (terminal (w ++ j)) ≡ true
  repeats_heads a u _ j b stop i = member_right T S (terminal j) i
  repeats_heads a u _ j c (go {b = b} {w = w} {v = v} y r) i =
      let behind = each_at (member U) (terminal (v ++ j)) (T ++ S) sub (repeats_heads b (u ++ w) v j c r i) in
      member_left T S (terminal ((w ++ v) ++ j)) (subst (λ z. member T (terminal z) ≡ true) (sym (append_assoc w v j)) ((f a).heads.heads u w (v ++ j) b y behind))

  goes : (a : A) (u w : Word) (c : A) → Or (Then (Y a) (λ b. Repeats Y b)) (Is a) u w c → Repeats Y a u w c
  goes a u w c (this (both y r)) = go y r
  goes a u w c (that is) = stop

  comes : (a : A) (u w : Word) (c : A) → Repeats Y a u w c → Or (Then (Y a) (λ b. Repeats Y b)) (Is a) u w c
  comes a u _ c stop = that is
  comes a u _ c (go y r) = this (both y r)

  is_stop : (a : A) (u w : Word) (c : A) → Is a u w c → Repeats Y a u w c
  is_stop a u w c is = stop

  none_takes : (a : A) (u w j : Word) (b : A) → Repeats Y a u w b → length w ≤ 0 → pure a (w ++ j) ≡ pure b j
  none_takes a u _ j b stop le = refl
  none_takes a u _ j c (go {b = b} {w = w} {v = v} y r) le = let never : ⊥ = omega (arith, le, length-append w v, some a u w b y) in absurd never

  at_none : (m : ℕ) (a : A) → Law 0 m (Repeats Y a) (T ++ S) S (loop 0 a) (loop' m a)
  at_none m a =
      like (l.at_end a) (λ s i. refl)
      (record {
        reads = weakened (is_stop a) (pure_reads a);
        takes = record { takes = λ u w j b h le i. none_takes a u w j b h le };
        alike = none_left;
        ends = record { ends = λ u. ([], a, stop) };
        heads = record { heads = repeats_heads a };
      })

  applied : (b : Bool) (x y : Parser A) (i : Word) → (if b then x i else y i) ≡ (if b then x else y) i
  applied true x y i = refl
  applied false x y i = refl

  turn_is : (g : A → Word → Parser A) (h : ℕ → A → Word → Parser A) → Loop K g h → (n : ℕ) (a : A) (s i : Word) → h (suc n) a s i ≡ (if K (terminal i) then (λ i. and_then (g a s i) (λ b. h n b s)) else pure a) i
  turn_is g h lo n a s i = lo.turn n a s i ∙ applied (K (terminal i)) (λ i. and_then (g a s i) (λ b. h n b s)) (pure a) i

  at_turn : (n m : ℕ) → suc n ≤ d → suc m ≤ d' → (a : A) → ((b : A) → Law n m (Repeats Y b) (T ++ S) S (loop n b) (loop' m b)) → Law (suc n) (suc m) (Repeats Y a) (T ++ S) S (loop (suc n) a) (loop' (suc m) a)
  at_turn n m ln lm a again =
      like (turn_is step loop l n a) (turn_is step' loop' l' m a)
      (shaped (goes a) (comes a) (either_law K (then_less (some a) (fewer_law ln lm (f a)) again sub) (pure_law a) yes_there not_there))

  same_read : {n m : ℕ} {R : Word → Word → A → Type 0} {V W : List Terminal} {P P' Q' : Word → Parser A} → Law n m R V W P P' → Law n 0 R V W P Q'
  same_read h = record { reads = h.reads; takes = h.takes; alike = none_right; ends = h.ends; heads = h.heads }

  at_last : (n : ℕ) → suc n ≤ d → 0 ≤ d' → (a : A) → ((b : A) → Law n 0 (Repeats Y b) (T ++ S) S (loop n b) (loop' 0 b)) → Law (suc n) 0 (Repeats Y a) (T ++ S) S (loop (suc n) a) (loop' 0 a)
  at_last n ln lm a again =
      like (turn_is step loop l n a) (λ s i. refl)
      (same_read (shaped (goes a) (comes a)
      (either_law K
      (turn_law {n = suc n} {m = 0} {n' = n} {m' = 0} U (λ u w b y. (omega (arith, some a u w b y), omega arith)) (fewer_law ln lm (f a)) again sub) (pure_law a) yes_there not_there)))

  pub repeat_law : (n m : ℕ) → n ≤ d → m ≤ d' → (a : A) → Law n m (Repeats Y a) (T ++ S) S (loop n a) (loop' m a)
  repeat_law zero m ln lm a = at_none m a
  repeat_law (suc n) zero ln lm a = at_last n ln lm a (λ b. repeat_law n zero (omega (arith, ln)) lm b)
  repeat_law (suc n) (suc m) ln lm a = at_turn n m ln lm a (λ b. repeat_law n m (omega (arith, ln)) (omega (arith, lm)) b)

pub is_then : {A : Type 0} {z b : A} {u y : Word} (P : Word → A → Type 0) → Is z u y b → P [] z → P y b
is_then P is p = p

-- ---- what stands before them

abbrev pub Lefts : {A : Type 0} → (Word → A → Type 0) → (A → Word → Word → A → Type 0) → Word → Word → A → Type 0
Lefts B Y = Then (λ u. B) (λ a. Repeats Y a)

pub left_one : {A : Type 0} {B : Word → A → Type 0} {Y : A → Word → Word → A → Type 0} {w : Word} {a : A} → B w a → Lefts B Y [] w a
left_one {B = B} {Y = Y} {w = w} {a = a} b = subst (λ z. Lefts B Y [] z a) (append-nil w) (both b stop)

pub left_more : {A : Type 0} {B : Word → A → Type 0} {Y : A → Word → Word → A → Type 0} {v w : Word} {a b : A} → Lefts B Y [] v a → Y a v w b → Lefts B Y [] (v ++ w) b
left_more {B = B} {Y = Y} {w = w} {b = c} (both {x} {y} h r) z = subst (λ q. Lefts B Y [] q c) (sym (append_assoc x y w)) (both h (snoc r z))

-- ---- lists with a separator

pub data Further {A : Type 0} (sep : Terminal) (X : Word → A → Type 0) (found : List A) (u : Word) : Word → List A → Type 0 where
  further : (t : Lexeme) {w : Word} {x : A} → t.terminal ≡ sep → X w x → Further sep X found u (t ∷ w) (found ++ x ∷ [])

abbrev pub Row : {A : Type 0} → Terminal → (Word → A → Type 0) → List A → Word → Word → List A → Type 0
Row sep X found = Then (λ u. X) (λ x. Repeats (Further sep X) (found ++ x ∷ []))

pub row_one : {A : Type 0} {sep : Terminal} {X : Word → A → Type 0} (found : List A) (w : Word) (x : A) → X w x → Row sep X found [] w (found ++ x ∷ [])
row_one {sep = sep} {X = X} found w x b = subst (λ z. Row sep X found [] z (found ++ x ∷ [])) (append-nil w) (both b stop)

pub row_more : {A : Type 0} {sep : Terminal} {X : Word → A → Type 0} (found : List A) {v w : Word} {xs : List A} {x : A} → Row sep X found [] v xs → (t : Lexeme) → t.terminal ≡ sep → X w x
    → Row sep X found [] (v ++ t ∷ w) (xs ++ x ∷ [])
row_more {sep = sep} {X = X} found {w = w} {xs = xs} {x = x} (both {x = q} {y = y} h r) t e b =
    subst (λ z. Row sep X found [] z (xs ++ x ∷ [])) (sym (append_assoc q y (t ∷ w))) (both h (snoc r (further t e b)))

-- what follows the items that are found
abbrev pub Behind : {A : Type 0} → (Word → List A → Type 0) → List A → Word → List A → Type 0
Behind {A} G found w all = (xs : List A) × (all ≡ found ++ xs) × G w xs

module _ {A : Type 0} (sep : Terminal) (X : Word → A → Type 0) (G : Word → List A → Type 0) (one : (w : Word) (x : A) → X w x → G w (x ∷ []))
    (more : (v w : Word) (t : Lexeme) (xs : List A) (x : A) → G v xs → t.terminal ≡ sep → X w x → G (v ++ t ∷ w) (xs ++ x ∷ [])) (found : List A) where
  further_behind : (v w : Word) (xs bs : List A) → Behind G found v xs → Further sep X xs v w bs → Behind G found (v ++ w) bs
  further_behind v _ xs _ h (further t {w} {x} e b) =
      (h.0 ++ x ∷ [], ap (λ z. z ++ x ∷ []) h.1 ∙ append_assoc found h.0 (x ∷ []), more v w t h.0 x h.2 e b)

  pub row_behind : (w : Word) (all : List A) → Row sep X found [] w all → Behind G found w all
  row_behind w all (both {x = v} {a = x} h r) = fold (Behind G found) further_behind (x ∷ [], refl, one v x h) r

pub row_is : {A : Type 0} {sep : Terminal} {X : Word → A → Type 0} {G : Word → List A → Type 0} (found : List A) → ((w : Word) (xs : List A) → G w xs → Row sep X found [] w (found ++ xs))
    → (w : Word) (all : List A) → Behind G found w all → Row sep X found [] w all
row_is {sep = sep} {X = X} found f w all h = subst (Row sep X found [] w) (sym h.1) (f w h.0 h.2)

pub row_in : {A : Type 0} (sep : Terminal) (X : Word → A → Type 0) (G : Word → List A → Type 0) → ((w : Word) (x : A) → X w x → G w (x ∷ []))
    → ((v w : Word) (t : Lexeme) (xs : List A) (x : A) → G v xs → t.terminal ≡ sep → X w x → G (v ++ t ∷ w) (xs ++ x ∷ [])) → (w : Word) (all : List A) → Row sep X [] [] w all → G w all
row_in sep X G one more w all r = let b = row_behind sep X G one more [] w all r in subst (G w) (sym b.1) b.2

pub then_assoc : {A B C : Type 0} (r : Outcome A) (f : A → Parser B) (g : B → Parser C) → and_then (and_then r f) g ≡ and_then r (λ a i. and_then (f a i) g)
then_assoc (Ok p) f g = refl
then_assoc (Err e) f g = refl

abbrev pub list_step : {A : Type 0} → Terminal → Parser A → List A → Word → Parser (List A)
list_step sep p found s i = and_then (expect sep i) (λ _ i. and_then (p i) (λ x. pure (found ++ x ∷ [])))

abbrev wanted : Bool → Word → Outcome (Unit {0})
wanted b i = if b then Ok (tt, next i) else Err i

list_loop : {A : Type 0} (sep : Terminal) (p : Parser A) → Loop (λ kd. same_terminal kd sep) (list_step sep p) (λ n found s. list_from sep p n found)
unfolding list_from expect sees after
list_loop {A} sep p = record { at_end = λ a s i. refl; turn = λ n a s i. turn n a s i (same_terminal (terminal i) sep) }
  where
    turn : (n : ℕ) (found : List A) (s i : Word) (b : Bool) → (if b then (λ i. and_then (p i) (λ x. list_from sep p n (found ++ x ∷ []))) else pure found) (if b then next i else i)
        ≡ (if b then and_then (and_then (wanted b i) (λ _ i. and_then (p i) (λ x. pure (found ++ x ∷ [])))) (λ b. list_from sep p n b) else pure found i)
    turn n found s i true = sym (then_assoc (p (next i)) (λ x. pure (found ++ x ∷ [])) (λ b. list_from sep p n b))
    turn n found s i false = refl

module _ {A : Type 0} {d d' : ℕ} {X : Word → A → Type 0} {p p' : Parser A} {T U : List Terminal} (sep : Terminal) (never : only sep the.Nothing ≡ None) (S : List Terminal) (item : Law d d' (λ u. X) T U (λ s. p) (λ s. p'))
    (sub : within (sep ∷ S) U ≡ true) (not_there : each (λ kd. not (same_terminal kd sep)) S ≡ true) where
  step_goes : (found : List A) (u w : Word) (xs : List A) → Then (One sep) (λ _. Then (λ u. X) (λ x. Is (found ++ x ∷ []))) u w xs → Further sep X found u w xs
  step_goes found u w xs (both (a_token t {a = a} e) (both {x = v} {a = x} h i)) =
      is_then (λ y b. Further sep X found u (t ∷ (v ++ y)) b) i
      (subst (λ z. Further sep X found u z (found ++ x ∷ [])) (sym (ap (λ z. t ∷ z) (append-nil v))) (further t (only_is sep t.terminal a e) h))

  step_comes : (found : List A) (u w : Word) (xs : List A) → Further sep X found u w xs → Then (One sep) (λ _. Then (λ u. X) (λ x. Is (found ++ x ∷ []))) u w xs
  step_comes found u _ _ (further t {w} {x} e h) =
      subst (λ z. Then (One sep) (λ _. Then (λ u. X) (λ x. Is (found ++ x ∷ []))) u z (found ++ x ∷ [])) (ap (λ z. t ∷ z) (append-nil w)) (both (a_token t (is_only sep t.terminal e)) (both h is))

  step_law : (found : List A) → Law d d' (Further sep X found) (sep ∷ []) (sep ∷ S) (list_step sep p found) (list_step sep p' found)
  step_law found = shaped (step_goes found) (step_comes found) (word_then sep never (then_law {U = U} item (λ x. pure_law {S = sep ∷ S} (found ++ x ∷ [])) sub))

  step_some : (found : List A) (u w : Word) (xs : List A) → Further sep X found u w xs → 0 < length w
  step_some found u _ _ (further t e h) = omega arith

  seen : each (λ kd. same_terminal kd sep) (sep ∷ []) ≡ true
  seen = ap (λ b. if b then true else false) (is_same sep sep refl)

  pub from_law : (n m : ℕ) → n ≤ d → m ≤ d' → (found : List A) → Law n m (Repeats (Further sep X) found) (sep ∷ S) S (λ s. list_from sep p n found) (λ s. list_from sep p' m found)
  from_law n m ln lm found =
      repeat_law d d' (λ kd. same_terminal kd sep) (list_step sep p) (list_step sep p') (λ n found s. list_from sep p n found) (λ n found s. list_from sep p' n found) (Further sep X) (sep ∷ []) S (sep ∷ S)
      (list_loop sep p) (list_loop sep p') step_some step_law (within_self (sep ∷ S)) seen not_there n m ln lm found

  pub list_law : (found : List A) → Law d d' (λ u. Row sep X found []) T S (λ s. list sep p d found) (λ s. list sep p' d' found)
  unfolding list
  list_law found = begun_law (then_law {U = U} item (λ x. from_law d d' (omega arith) (omega arith) (found ++ x ∷ [])) sub)
