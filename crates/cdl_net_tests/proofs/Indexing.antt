-- Numbers that are good item by item are good.
use Rattle.std.proofs.Common.{ℕ, ◌+◌, ◌-◌, ◌<◌, ◌≤◌, ◌≡◌, ◌==◌, true, false, nat_le, nat_lt, inl, inr, refl, sym, ap, ◌∙◌, subst, arith, List, length, get_or, Option, Some, None, slice_get}
use Rattle.std.proofs.lemmas.Bool.{cases_eq, eq-eqb, ne_eqb, le-leb, lt-leb, le-ltb, lt-ltb}
use Rattle.std.proofs.lemmas.Option.{slice_get-get_or, slice_get_within}
use Rattle.cdl_source.proofs.Cases.{by_lt}
use Rattle.cdl_source.specs.declared.limits.TheConstants.{MOST_ELEMENTS, MOST_INSTANCES, MOST_WIRES}
use Rattle.cdl_connect.specs.declared.net.Net.{Net}
use Rattle.cdl_connect.specs.declared.net.NetInstance.{NetInstance}
use Rattle.cdl_connect.specs.declared.net.RawWire.{RawWire}
use Rattle.cdl_connect.specs.Nets.{parent_of, element}
use Rattle.cdl_connect.specs.WellFormed.{IsIndexed}
use Rattle.cdl_net_tests.specs.Fine.{AreOwn, AreRising, Begins, Ends, Follows, IsFineInstance, IsFineWire, Owns}

parent_some : (o : Option NetInstance) (p : ℕ) → parent_of o ≡ Some p → (t : NetInstance) × (o ≡ Some t) × (t.parent ≡ Some p)
parent_some None p e = absurd (cc)
parent_some (Some t) p e = (t, refl, e)

pub indexed_of : (n : Net) → (length n.instances ≤ MOST_INSTANCES) × (length n.elements ≤ MOST_ELEMENTS) × (length n.wires ≤ MOST_WIRES)
    → ((x : ℕ) → x < length n.elements → (element n x).instance < length n.instances)
    → AreRising n (length n.elements)
    → ((i : ℕ) (t : NetInstance) → i < length n.instances → slice_get n.instances i ≡ Some t → IsFineInstance n i t)
    → ((k : ℕ) (w : RawWire) → k < length n.wires → slice_get n.wires k ≡ Some w → IsFineWire n w)
    → IsIndexed n
indexed_of n few o r a c = record {
  numbers = record {
    parent = λ i p e. let s = parent_some (slice_get n.instances i) p e in (a i s.0 (slice_get_within n.instances i s.0 s.1) s.1).parent p s.2;
    owner = o;
    scope = λ k w s. (c k w (slice_get_within n.wires k w s) s).scope;
    left = λ k w s. (c k w (slice_get_within n.wires k w s) s).left;
    right = λ k w s. (c k w (slice_get_within n.wires k w s) s).right;
  };
  windows = record {
    rising = r;
    within = λ i t s. (a i t (slice_get_within n.instances i t s) s).within;
    own = λ i t x s h. (a i t (slice_get_within n.instances i t s) s).own x h;
  };
  scopes = λ k w s. (c k w (slice_get_within n.wires k w s) s).composite;
  instances = few.0;
  elements = few.1;
  wires = few.2;
}

-- one element more
pub rising_more : (n : Net) (k : ℕ) → Follows n k → AreRising n k → AreRising n (k + 1)
rising_more n k f g x y l h = by_lt y k
    (λ b. g x y l b)
    (λ b.
    let e : y ≡ k = omega (arith, h, b) in
    by_lt x k
    (λ a.
    let q : (k - 1) + 1 ≡ k = omega (arith, a) in
    let u : (element n x).instance ≤ (element n (k - 1)).instance = g x (k - 1) (omega (arith, a)) (omega (arith, a)) in
    let v : (element n (k - 1)).instance ≤ (element n k).instance = f (k - 1) q in
    let w : (element n x).instance ≤ (element n k).instance = omega (arith, u, v) in
    subst (λ z. (element n x).instance ≤ (element n z).instance) (sym e) w)
    (λ a.
    let d : x ≡ y = omega (arith, a, e, l) in
    let p : (element n x).instance ≡ (element n y).instance = ap (λ z. (element n z).instance) d in
    omega (arith, p)))

-- a window whose elements are the instance's, and whose neighbours aren't, has all of them
pub owns_of : (n : Net) (i : ℕ) (t : NetInstance) → t.first + t.count ≤ length n.elements → AreRising n (length n.elements) → Begins n i t.first → Ends n i (t.first + t.count) → AreOwn n i t.first (t.first + t.count) → Owns n i t
owns_of n i t w r a b o x l = by_lt x t.first
    (λ h.
    let p : (t.first - 1) + 1 ≡ t.first = omega (arith, h) in
    let q = a (t.first - 1) p in
    let s = r x (t.first - 1) (omega (arith, h)) (omega (arith, h, w)) in
    let e : ((element n x).instance == i) ≡ false = ne_eqb (element n x).instance i (λ z. omega (arith, z, q, s)) in
    let f : nat_le t.first x ≡ false = lt-leb t.first x h in
    rw (e, f) refl)
    (λ h.
    let f : nat_le t.first x ≡ true = le-leb t.first x h in
    by_lt x (t.first + t.count)
    (λ k.
    let e : ((element n x).instance == i) ≡ true = eq-eqb (element n x).instance i (o x h k) in
    let g : nat_lt x (t.first + t.count) ≡ true = lt-ltb x (t.first + t.count) k in
    rw (e, f, g) refl)
    (λ k.
    let q = b (omega (arith, k, l)) in
    let s = r (t.first + t.count) x k l in
    let e : ((element n x).instance == i) ≡ false = ne_eqb (element n x).instance i (λ z. omega (arith, z, q, s)) in
    let g : nat_lt x (t.first + t.count) ≡ false = le-ltb x (t.first + t.count) k in
    rw (e, f, g) refl))

-- one instance more
pub instance_more : (n : Net) (xs : List NetInstance) (k : ℕ) (d : NetInstance) → xs ≡ n.instances → k < length xs → IsFineInstance n k (get_or xs k d)
    → ((i : ℕ) (t : NetInstance) → i < k → slice_get n.instances i ≡ Some t → IsFineInstance n i t) → (i : ℕ) (t : NetInstance) → i < k + 1 → slice_get n.instances i ≡ Some t → IsFineInstance n i t
instance_more n xs k d e h f g i t l s = elim (cases_eq i k) as (λ _. IsFineInstance n i t) [
  | inl q ↦
      let r : Some (get_or xs k d) ≡ Some t = sym (slice_get-get_or xs k d h) ∙ ap (λ (ys : List NetInstance). slice_get ys k) e ∙ ap (slice_get n.instances) (sym q) ∙ s in
      let same : get_or xs k d ≡ t = cc in
      subst (λ j. IsFineInstance n j t) (sym q) (subst (λ u. IsFineInstance n k u) same f)
  | inr q ↦ g i t (omega (arith, q)) s
]
