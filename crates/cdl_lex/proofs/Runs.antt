-- Runs of bytes that pass a test.
use Rattle.std.proofs.Common.{◌≡◌, ℕ, ◌+◌, Bool, true, false, ◌&&◌, [], ◌∷◌, ◌++◌, length, refl, ap, ◌∙◌, subst, arith, if◌then◌else◌}
use Rattle.std.proofs.lemmas.Bool.{and_parts}
use Rattle.std.specs.List.{list_all, prefix_len}
use Rattle.cdl_lex.specs.Spellings.{Bytes}

-- The run takes the bytes that pass, and stops at one that doesn't.
pub data Cut (p : ℕ → Bool) : Bytes → ℕ → Type 0 where
  cut : (s b : Bytes) → list_all p s ≡ true → ((x : ℕ) (r : Bytes) → b ≡ x ∷ r → p x ≡ false) → Cut p (s ++ b) (length s)

longer : (p : ℕ → Bool) (c : ℕ) (b : Bytes) (n : ℕ) → p c ≡ true → Cut p b n → Cut p (c ∷ b) (1 + n)
longer p c _ _ e (cut s r all stop) =
    let one : length (c ∷ s) ≡ 1 + length s = omega arith in
    subst (Cut p (c ∷ (s ++ r))) one (cut (c ∷ s) r (ap (λ z. z && list_all p s) e ∙ all) stop)

cut_more : (p : ℕ → Bool) (c : ℕ) (b : Bytes) (n : ℕ) (q : Bool) → p c ≡ q → Cut p b n → Cut p (c ∷ b) (if q then 1 + n else 0)
cut_more p c b n true e k = longer p c b n e k
cut_more p c b n false e k = cut [] (c ∷ b) refl (λ x r f. let same : c ≡ x = cc in subst (λ z. p z ≡ false) same e)

pub run_cuts : (p : ℕ → Bool) (b : Bytes) → Cut p b (prefix_len p b)
run_cuts p [] = cut [] [] refl (λ x r e. cc)
run_cuts p (c ∷ b) = cut_more p c b (prefix_len p b) (p c) refl (run_cuts p b)

-- the byte behind some that pass
pub byte_behind : (p : ℕ → Bool) (s m : Bytes) (x : ℕ) → list_all p (s ++ x ∷ m) ≡ true → p x ≡ true
byte_behind p [] m x e = (and_parts (p x) (list_all p m) e).0
byte_behind p (c ∷ s) m x e = byte_behind p s m x (and_parts (p c) (list_all p (s ++ x ∷ m)) e).1

-- a run goes on over what passes
pub run_through : (p : ℕ → Bool) (s b : Bytes) → list_all p s ≡ true → prefix_len p (s ++ b) ≡ length s + prefix_len p b
run_through p [] b e = omega arith
run_through p (c ∷ s) b e =
    let both = and_parts (p c) (list_all p s) e in
    let more : prefix_len p (s ++ b) ≡ length s + prefix_len p b = run_through p s b both.1 in
    let one : prefix_len p (c ∷ (s ++ b)) ≡ 1 + prefix_len p (s ++ b) = ap (λ q. if q then 1 + prefix_len p (s ++ b) else 0) both.0 in
    omega arith

-- and takes nothing of what doesn't begin with such a byte
pub run_none : (p : ℕ → Bool) (b : Bytes) → ((x : ℕ) (r : Bytes) → b ≡ x ∷ r → p x ≡ false) → prefix_len p b ≡ 0
run_none p [] stop = refl
run_none p (c ∷ b) stop = ap (λ q. if q then 1 + prefix_len p b else 0) (stop c b refl)

-- two fronts of one list that are as long
pub same_front : (s t b r : Bytes) → s ++ b ≡ t ++ r → length s ≡ length t → (s ≡ t) × (b ≡ r)
same_front [] [] b r e l = (refl, e)
same_front [] (d ∷ t) b r e l = let never : ⊥ = omega arith in absurd never
same_front (c ∷ s) [] b r e l = let never : ⊥ = omega arith in absurd never
same_front (c ∷ s) (d ∷ t) b r e l =
    let first : c ≡ d = cc in
    let rest : s ++ b ≡ t ++ r = cc in
    let size : length s ≡ length t = omega arith in
    let more = same_front s t b r rest size in
    (ap (λ z. z ∷ s) first ∙ ap (λ z. d ∷ z) more.0, more.1)
