-- Parents stand before their parts, and paths are UTF-8.
use Rattle.std.proofs.Common.{ℕ, zero, suc, ◌<◌, ◌≤◌, ◌≡◌, ◌==◌, refl, sym, ap, ◌∙◌, Bool, true, false, cond, inl, inr, List, [], ◌∷◌, codes, length, unwrap_or, IsUtf8, Option, None, Some, slice_get, arith}
use Rattle.std.specs.List.{list_any}
use Rattle.std.proofs.lemmas.Bool.{cases_eq, eqb-true, false≢true, or_cases}
use Rattle.cdl_network.specs.Lists.{has_some}
use Rattle.cdl_network.specs.Rules.{is_some_same}
use Rattle.cdl_connect.specs.declared.net.Net.{Net}
use Rattle.cdl_connect.specs.declared.net.NetInstance.{NetInstance}
use Rattle.cdl_connect.specs.Nets.{element, parent_of}
use Rattle.cdl_connect.specs.Paths.{IsStepText, Step, extended}
use Rattle.cdl_connect.specs.WellFormed.{HasSteps, IsPreorder, IsWellFormed, lineage, parent_at, path_of}
use Rattle.cxf_graph.proofs.Texts.{extended_utf8, low_utf8, step_utf8}

-- the parents of these instances stand before them
abbrev pub AreBefore : Net → ℕ → Type 0
AreBefore n m = (j p : ℕ) → j < m → parent_at n j ≡ Some p → p < j

-- a number up to i that passes the test
abbrev Passes : (ℕ → Bool) → ℕ → Type 0
Passes f i = (a : ℕ) × (f a ≡ true) × (a ≤ i)

in_lineage : (n : Net) (f : ℕ → Bool) (k i m : ℕ) → AreBefore n m → i < m → list_any f (lineage n k i) ≡ true → Passes f i
in_lineage n f zero i m b h e = elim (or_cases (f i) false e) as (λ _. Passes f i) [ inl t ↦ (i, t, omega arith) | inr t ↦ absurd (false≢true t) ]
in_lineage n f (suc k) i m b h e = elim (or_cases (f i) (list_any f (cond (has_some (parent_at n i)) (lineage n k (unwrap_or (parent_at n i) 0)) [])) e) as (λ _. Passes f i) [
  | inl t ↦ (i, t, omega arith)
  | inr t ↦ rest (parent_at n i) refl t (λ p l. in_lineage n f k p m b l)
]
  where
    rest : (o : Option ℕ) → parent_at n i ≡ o → list_any f (cond (has_some o) (lineage n k (unwrap_or o 0)) []) ≡ true → ((p : ℕ) → p < m → list_any f (lineage n k p) ≡ true → Passes f p) → Passes f i
    rest None q t g = absurd (false≢true t)
    rest (Some p) q t g =
        let l : p < i = b i p h q in
        let r = g p (omega arith) t in
        (r.0, r.1, omega (arith, r.2))

some_same : (a : ℕ) (o : Option ℕ) → is_some_same (λ p q. p == q) a o ≡ true → o ≡ Some a
some_same a None h = absurd (false≢true h)
some_same a (Some p) h = ap Some (eqb-true p a h)

some_apart : (p q : ℕ) → Some p ≡ Some q → p ≡ q
some_apart p q e = cc

has_parent : (xs : List NetInstance) (i p : ℕ) → parent_of (slice_get xs i) ≡ Some p → i < length xs
has_parent [] i p e = absurd (cc)
has_parent (x ∷ xs) zero p e = omega arith
has_parent (x ∷ xs) (suc i) p e = let r = has_parent xs i p e in omega arith

-- the parent that an instance has, and that it stands before it
parent_there : (n : Net) → IsPreorder n → (i : ℕ) → AreBefore n (suc i) → suc i < length n.instances → (p : ℕ) × (parent_at n (suc i) ≡ Some p) × (p < suc i)
parent_there n o i b h =
    let r = in_lineage n (λ a. is_some_same (λ p q. p == q) a (parent_at n (suc i))) i i (suc i) b (omega arith) (o.next i h) in
    (r.0, some_same r.0 (parent_at n (suc i)) r.1, omega (arith, r.2))

pub all_before : (n : Net) → IsPreorder n → (m : ℕ) → AreBefore n m
all_before n o zero j p h e = absurd (omega arith)
all_before n o (suc m) j p h e = elim (cases_eq j m) as (λ _. p < j) [
  | inl q ↦ rw q (last m (all_before n o m) (ap (parent_at n) (sym q) ∙ e))
  | inr q ↦ all_before n o m j p (omega (arith, q)) e
]
  where
    last : (i : ℕ) → AreBefore n i → parent_at n i ≡ Some p → p < i
    last zero b f = absurd (let g : Some p ≡ None = sym f ∙ o.root in cc)
    last (suc i) b f =
        let r = parent_there n o i b (has_parent n.instances (suc i) p f) in
        let g : p ≡ r.0 = some_apart p r.0 (sym f ∙ r.1) in
        omega (arith, g, r.2)

-- the instance that another one is a part of
pub record IsPart (n : Net) (i : ℕ) : Type 0 where
  pub parent : ℕ
  pub is : parent_at n i ≡ Some parent
  pub before : parent < i

pub part_there : (n : Net) → IsPreorder n → (i : ℕ) → suc i < length n.instances → IsPart n (suc i)
part_there n o i h = let r = parent_there n o i (all_before n o (suc i)) h in record { parent = r.0; is = r.1; before = r.2 }

same_some : (a : ℕ) (o : Option ℕ) → o ≡ Some a → is_some_same (λ p q. p == q) a o ≡ true
same_some a o e = rw e (grind arith)

-- so its path is its parent's, extended by a step
pub part_path : (n : Net) (i p : ℕ) (step part : ℕ → Step) → HasSteps n p step part → i < length n.instances → parent_at n i ≡ Some p → (text : List ℕ) × IsStepText (part i) text × (path_of n i ≡ extended (path_of n p) text)
part_path n i p step part s h e = s.part i h (same_some p (parent_at n i) e)

pub path_utf8 : (n : Net) → IsWellFormed n → (m i : ℕ) → i < m → i < length n.instances → IsUtf8 (path_of n i)
path_utf8 n w zero i h l = absurd (omega arith)
path_utf8 n w (suc m) zero h l = rw (w.paths.root) (low_utf8 (codes "#") refl)
path_utf8 n w (suc m) (suc i) h l =
    let p = part_there n w.preorder i l in
    let b : p.parent < suc i = p.before in
    let s = w.paths.each p.parent (omega arith) in
    let t = part_path n (suc i) p.parent s.0 s.1 s.2 l p.is in
    rw (t.2) (extended_utf8 (path_of n p.parent) t.0 (path_utf8 n w m p.parent (omega arith) (omega arith)) (step_utf8 (s.1 (suc i)) t.0 t.1))

-- the name of an element is a step
pub element_name_utf8 : (n : Net) → IsWellFormed n → (x : ℕ) → x < length n.elements → IsUtf8 (element n x).name
element_name_utf8 n w x h =
    let s = w.paths.each (element n x).instance (w.numbers.owner x h) in
    step_utf8 (s.0 x) (element n x).name (s.2.step x h refl)
