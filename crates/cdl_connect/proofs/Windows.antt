-- The elements of an instance of a kind: its inputs, and behind them its outputs; and that inputs which aren't direct have no part in its meaning.
use Rattle.std.proofs.Common.{ℕ, zero, suc, ◌+◌, ◌-◌, ◌<◌, ◌≤◌, ◌≡◌, ◌==◌, ◌&&◌, refl, sym, ap, ◌∙◌, subst, arith, ℤ, Bool, true, false, cond, not, List, [], ◌∷◌, length, map, filter, Option, Some, None, slice_get}
use Rattle.cdl_source.proofs.Cases.{by_bool}
use Rattle.std.specs.Prelude.{nat_le, nat_lt}
use Rattle.std.proofs.lemmas.Bool.{eq-eqb, eqb-true, lt-ltb, ltb-true, leb-true, le-leb, false≢true, le-ltb, and_from, and_right, and_parts}
use Rattle.cdl_kinds.specs.declared.kind.Kind.{Kind}
use Rattle.cdl_values.specs.declared.value.Array.{Array}
use Rattle.cdl_values.specs.History.{History, Meaning, SameDirect, word}
use Rattle.cdl_kinds.specs.Meanings.{meaning}
use Rattle.cdl_kinds.specs.Ports.{inputs, outputs, port_at, port_among, nin_or_nout}
use Rattle.cdl_kinds.specs.Table.{row}
use Rattle.cdl_kinds.proofs.Listing.{among_is}
use Rattle.cdl_kind_laws.proofs.Direct.{direct_only}
use Rattle.cdl_network.specs.Dependence.{is_of, inputs_of, outputs_of, direct_of}
use Rattle.cdl_network.specs.Lists.{numbers}
use Rattle.cdl_network.specs.Planned.{DirectOnly, SameWhere}
use Rattle.cdl_network.proofs.Places.{window, in_numbers, filter_no, filter_front, filter_back}
use Rattle.cdl_connect.specs.declared.net.Net.{Net}
use Rattle.cdl_connect.specs.declared.net.NetInstance.{NetInstance}
use Rattle.cdl_connect.specs.declared.net.Body.{Body}
use Rattle.cdl_connect.specs.declared.net.Body.TheVariants.{Composite, Elementary}
use Rattle.cdl_connect.specs.Nets.{network_of, element, is_block, is_elementary, is_direct_at, is_direct_port, meaning_of, meaning_at}
use Rattle.cdl_connect.specs.WellFormed.{IsIndexed, AreOfKinds, HasPorts, FitsBody}

-- windows
pub own_window : (n : Net) (i x : ℕ) (t : NetInstance) → IsIndexed n → slice_get n.instances i ≡ Some t → x < length n.elements → (element n x).instance ≡ i → (t.first ≤ x) × (x < t.first + t.count)
own_window n i x t f s h e =
    let w = sym (f.windows.own i t x s h) ∙ eq-eqb (element n x).instance i e in
    let p = and_parts (nat_le t.first x) (nat_lt x (t.first + t.count)) w in
    (leb-true t.first x p.0, ltb-true x (t.first + t.count) p.1)

pub window_own : (n : Net) (i x : ℕ) (t : NetInstance) → IsIndexed n → slice_get n.instances i ≡ Some t → x < length n.elements → t.first ≤ x → x < t.first + t.count → (element n x).instance ≡ i
window_own n i x t f s h a b =
    let w : (nat_le t.first x && nat_lt x (t.first + t.count)) ≡ true = ap (λ c. c && nat_lt x (t.first + t.count)) (le-leb t.first x a) ∙ lt-ltb x (t.first + t.count) b in
    eqb-true (element n x).instance i (f.windows.own i t x s h ∙ w)

not_own : (n : Net) (i x : ℕ) (t : NetInstance) → IsIndexed n → slice_get n.instances i ≡ Some t → x < length n.elements → ((t.first ≤ x) → (x < t.first + t.count) → ⊥) → ((element n x).instance == i) ≡ false
not_own n i x t f s h out = go ((element n x).instance == i) refl
  where
    go : (b : Bool) → ((element n x).instance == i) ≡ b → ((element n x).instance == i) ≡ false
    go false e = e
    go true e = let w = own_window n i x t f s h (eqb-true (element n x).instance i e) in absurd (out w.0 w.1)

-- the elements of an instance that pass a test are those of its window
pub own_elements : (n : Net) (i : ℕ) (t : NetInstance) (q : ℕ → Bool) → IsIndexed n → slice_get n.instances i ≡ Some t → filter (λ x. is_of (network_of n) i x && q x) (network_of n).elements ≡ filter q (numbers t.first t.count)
own_elements n i t q f s =
    let l = f.windows.within i t s in
    window (λ x. is_of (network_of n) i x) q (length n.elements) t.first t.count l
    (λ x b. not_own n i x t f s (omega (arith, b, l)) (λ c d. omega (arith, b, c)))
    (λ x a b. eq-eqb (element n x).instance i (window_own n i x t f s (omega (arith, b, l)) a b))
    (λ x a b. not_own n i x t f s b (λ c d. omega (arith, a, d)))

-- ports
input_port : (k : Kind) (p : List Array) (j : ℕ) → j < (inputs k p).count → (port_at k p j).input ≡ true
input_port k p j h =
    let a = port_among true (row k).direct (nin_or_nout p) (row k).ins j in
    let b = port_among false false (nin_or_nout p) (row k).outs (j - (inputs k p).count) in
    ap (λ c. (cond c a b).input) (lt-ltb j (inputs k p).count h) ∙ (among_is a true (row k).direct (nin_or_nout p) (row k).ins j refl h).0

output_port : (k : Kind) (p : List Array) (j : ℕ) → (inputs k p).count ≤ j → j < (inputs k p).count + (outputs k p).count → (port_at k p j).input ≡ false
output_port k p j l h =
    let a = port_among true (row k).direct (nin_or_nout p) (row k).ins j in
    let b = port_among false false (nin_or_nout p) (row k).outs (j - (inputs k p).count) in
    ap (λ c. (cond c a b).input) (le-ltb j (inputs k p).count l) ∙ (among_is b false false (nin_or_nout p) (row k).outs (j - (inputs k p).count) refl (omega (arith, l, h))).0

-- what an instance of a kind is
pub record IsOf (n : Net) (i : ℕ) (t : NetInstance) (k : Kind) (p : List Array) : Type 0 where
  pub indexed : IsIndexed n
  pub there : slice_get n.instances i ≡ Some t
  pub body : t.body ≡ Elementary k p
  pub ports : HasPorts n t k p

pub of_kind : (n : Net) (i : ℕ) (t : NetInstance) (k : Kind) (p : List Array) → IsIndexed n → AreOfKinds n → slice_get n.instances i ≡ Some t → t.body ≡ Elementary k p → IsOf n i t k p
of_kind n i t k p f o s e = record { indexed = f; there = s; body = e; ports = subst (λ b. FitsBody n t b) e (o.each i t s) }

input_at : (n : Net) (i : ℕ) (t : NetInstance) (k : Kind) (p : List Array) (x : ℕ) → IsOf n i t k p → t.first ≤ x → x < t.first + (inputs k p).count → (element n x).input ≡ true
input_at n i t k p x o a b =
    let e : t.first + (x - t.first) ≡ x = omega (arith, a) in
    let c = o.ports.count in
    let q = o.ports.each (x - t.first) (omega (arith, a, b, c)) in
    subst (λ y. (element n y).input ≡ true) e (q.input ∙ input_port k p (x - t.first) (omega (arith, a, b)))

output_at : (n : Net) (i : ℕ) (t : NetInstance) (k : Kind) (p : List Array) (x : ℕ) → IsOf n i t k p → t.first + (inputs k p).count ≤ x → x < t.first + (inputs k p).count + (outputs k p).count → (element n x).input ≡ false
output_at n i t k p x o a b =
    let e : t.first + (x - t.first) ≡ x = omega (arith, a) in
    let c = o.ports.count in
    let q = o.ports.each (x - t.first) (omega (arith, a, b, c)) in
    subst (λ y. (element n y).input ≡ false) e (q.input ∙ output_port k p (x - t.first) (omega (arith, a)) (omega (arith, a, b)))

direct_at : (n : Net) (i : ℕ) (t : NetInstance) (k : Kind) (p : List Array) (x : ℕ) → IsOf n i t k p → t.first ≤ x → x < t.first + t.count → (network_of n).direct x ≡ (row k).direct
direct_at n i t k p x o a b =
    let l = o.indexed.windows.within i t o.there in
    let own = window_own n i x t o.indexed o.there (omega (arith, l, b)) a b in
    ap (λ j. is_direct_at (slice_get n.instances j) x) own ∙ ap (λ s. is_direct_at s x) o.there ∙ ap (λ y. is_direct_port y (x - t.first)) o.body

-- its inputs come first, then its outputs
pub inputs_are : (n : Net) (i : ℕ) (t : NetInstance) (k : Kind) (p : List Array) → IsOf n i t k p → inputs_of (network_of n) i ≡ numbers t.first (inputs k p).count
inputs_are n i t k p o =
    own_elements n i t (λ x. (element n x).input) o.indexed o.there
    ∙ filter_front (λ x. (element n x).input) t.first t.count (inputs k p).count (outputs k p).count o.ports.count (λ x a b. input_at n i t k p x o a b) (λ x a b. output_at n i t k p x o a b)

pub outputs_are : (n : Net) (i : ℕ) (t : NetInstance) (k : Kind) (p : List Array) → IsOf n i t k p → outputs_of (network_of n) i ≡ numbers (t.first + (inputs k p).count) (outputs k p).count
outputs_are n i t k p o =
    own_elements n i t (λ x. not (element n x).input) o.indexed o.there
    ∙ filter_back (λ x. not (element n x).input) t.first t.count (inputs k p).count (outputs k p).count o.ports.count (λ x a b. ap not (input_at n i t k p x o a b)) (λ x a b. ap not (output_at n i t k p x o a b))

-- where its inputs are direct all of them are, else none
pub direct_are : (n : Net) (i : ℕ) (t : NetInstance) (k : Kind) (p : List Array) → IsOf n i t k p → direct_of (network_of n) i ≡ cond (row k).direct (numbers t.first (inputs k p).count) []
direct_are n i t k p o =
    own_elements n i t (λ x. (network_of n).input x && (network_of n).direct x) o.indexed o.there
    ∙ by_bool (row k).direct
    (λ d. filter_front (λ x. (network_of n).input x && (network_of n).direct x) t.first t.count (inputs k p).count (outputs k p).count o.ports.count
    (λ x a b. and_from ((network_of n).input x) ((network_of n).direct x) (input_at n i t k p x o a b) (at x a (omega (arith, b, o.ports.count)) ∙ d))
    (λ x a b. ap (λ c. c && (network_of n).direct x) (output_at n i t k p x o a b))
    ∙ sym (ap (λ c. cond c (numbers t.first (inputs k p).count) []) d))
    (λ d. filter_no (λ x. (network_of n).input x && (network_of n).direct x) (numbers t.first t.count)
    (λ x m. let r = in_numbers t.first t.count x m in and_right ((network_of n).input x) ((network_of n).direct x) (at x r.0 r.1 ∙ d))
    ∙ sym (ap (λ c. cond c (numbers t.first (inputs k p).count) []) d))
  where
    at : (x : ℕ) → t.first ≤ x → x < t.first + t.count → (network_of n).direct x ≡ (row k).direct
    at x a b = direct_at n i t k p x o a b

-- words that are the same where inputs are direct
where_direct : (f : ℕ → Bool) (g : ℕ → Bool) (s a : ℕ) (xs ys : List ℤ) → ((j : ℕ) → j < a → f (s + j) ≡ g j) → SameWhere (map f (numbers s a)) xs ys → (length xs ≡ a) × (length ys ≡ a) × ((j : ℕ) → j < a → g j ≡ true → word xs j ≡ word ys j)
where_direct f g s zero [] [] e w = (refl, refl, λ j h d. absurd (omega (arith, h)))
where_direct f g s zero [] (y ∷ ys) e w = absurd w
where_direct f g s zero (x ∷ xs) ys e w = absurd w
where_direct f g s (suc a) [] ys e w = absurd w
where_direct f g s (suc a) (x ∷ xs) [] e w = absurd w
where_direct f g s (suc a) (x ∷ xs) (y ∷ ys) e w =
    let r = where_direct f (λ j. g (suc j)) (suc s) a xs ys (λ j h. let q : suc s + j ≡ s + suc j = omega arith in ap f q ∙ e (suc j) (omega (arith, h))) w.1 in
    let l = r.0 in
    let m = r.1 in
    (omega (arith, l), omega (arith, m), each (λ j h d. r.2 j h d))
  where
    each : ((j : ℕ) → j < a → g (suc j) ≡ true → word xs j ≡ word ys j) → (j : ℕ) → j < suc a → g j ≡ true → word (x ∷ xs) j ≡ word (y ∷ ys) j
    each further zero h d = let q : s + 0 ≡ s = omega arith in w.0 (ap f (sym q) ∙ e 0 (omega arith) ∙ d)
    each further (suc j) h d = further j (omega (arith, h)) d

pub meaning_is : (n : Net) (i : ℕ) (t : NetInstance) (k : Kind) (p : List Array) → IsOf n i t k p → (network_of n).meaning i ≡ meaning k p
meaning_is n i t k p o = ap meaning_at o.there ∙ ap meaning_of o.body

same_meaning : (n : Net) (i : ℕ) (t : NetInstance) (k : Kind) (p : List Array) (h : History) (now : ℤ) (xs ys : List ℤ) → IsOf n i t k p → SameWhere (map (network_of n).direct (inputs_of (network_of n) i)) xs ys → (network_of n).meaning i h now xs ≡ (network_of n).meaning i h now ys
same_meaning n i t k p h now xs ys o w =
    let v : SameWhere (map (network_of n).direct (numbers t.first (inputs k p).count)) xs ys = subst (λ l. SameWhere (map (network_of n).direct l) xs ys) (inputs_are n i t k p o) w in
    let c = o.ports.count in
    let r = where_direct (network_of n).direct (inputs k p).direct t.first (inputs k p).count xs ys (λ j l. direct_at n i t k p (t.first + j) o (omega arith) (omega (arith, l, c))) v in
    let s : SameDirect (inputs k p) xs ys = record { size = r.0 ∙ sym r.1; count = r.0; each = λ j l d. r.2 j l d } in
    let e = meaning_is n i t k p o in
    ap (λ (m : Meaning). m h now xs) e ∙ direct_only k p h now xs ys s ∙ sym (ap (λ (m : Meaning). m h now ys) e)

-- each elementary instance is one of a kind
pub record OfKind (n : Net) (i : ℕ) : Type 0 where
  pub t : NetInstance
  pub k : Kind
  pub p : List Array
  pub is : IsOf n i t k p

of_body : (n : Net) (i : ℕ) (t : NetInstance) (b : Body) → IsIndexed n → AreOfKinds n → slice_get n.instances i ≡ Some t → t.body ≡ b → is_block b ≡ true → OfKind n i
of_body n i t Composite f o s e h = absurd (false≢true h)
of_body n i t (Elementary k p) f o s e h = record { t = t; k = k; p = p; is = of_kind n i t k p f o s e }

pub kind_at : (n : Net) (i : ℕ) → IsIndexed n → AreOfKinds n → (network_of n).elementary i ≡ true → OfKind n i
kind_at n i f o h = go (slice_get n.instances i) refl h
  where
    go : (s : Option NetInstance) → slice_get n.instances i ≡ s → is_elementary s ≡ true → OfKind n i
    go None e g = absurd (false≢true g)
    go (Some t) e g = of_body n i t t.body f o e refl g

pub direct_alone : (n : Net) → IsIndexed n → AreOfKinds n → DirectOnly (network_of n)
direct_alone n f o = record { same = λ i h now xs ys m e w. let q = kind_at n i f o e in same_meaning n i q.t q.k q.p h now xs ys q.is w }
