-- The first broken rule of a network: it is one, it has the texts of its place, and it is the same under other names.
use Rattle.std.proofs.Common.{ℕ, ◌<◌, ◌≡◌, refl, sym, ap, ◌∙◌, inl, inr, List, [], ◌∷◌, length, Option, Some, None, slice_get}
use Rattle.std.proofs.lemmas.Bool.{cases_order}
use Rattle.cdl_network.specs.Closed.{Closed}
use Rattle.cdl_network.specs.Dependence.{FirstLoop, NoLoop}
use Rattle.cdl_network.specs.FirstBroken.{Accepted, AtElement, AtInstance, AtWire, FirstBroken, Spot}
use Rattle.cdl_network.specs.Lists.{In, first_of, found, numbers}
use Rattle.cdl_network.specs.Network.{Network}
use Rattle.cdl_network.specs.Renamed.{Renamed, rename_spot}
use Rattle.cdl_network.specs.Rules.{element_fault, first_element, first_wire, wire_fault}
use Rattle.cdl_network.proofs.Inside.{in_slice}
use Rattle.cdl_network.proofs.Looping.{broken_back}
use Rattle.cdl_connect.specs.declared.net.Net.{Net}
use Rattle.cdl_connect.specs.declared.net.RawWire.{RawWire}
use Rattle.cdl_connect.specs.Faults.{IsFirstElement, IsFirstWire, IsUnbroken}
use Rattle.cdl_connect.specs.Nets.{network_of, wire_in}
use Rattle.cdl_connect.specs.WellFormed.{path_of}
use Rattle.cdl_connect.proofs.Networks.{below_all, element_first, no_wire, none_first, wire_first}
use Rattle.cdl_source.specs.declared.rules.TheConstants.{LOOP_WITHOUT_DELAY}
use Rattle.cdl_check.specs.declared.fault.NetSpot.{NetSpot}
use Rattle.cdl_check.specs.declared.fault.NetSpot.TheVariants.{Wire, Path}
use Rattle.cdl_check.specs.Broken.{BreaksFirst, element_path, place_of, rule_at}

some_same : {A : Type 0} (x y : A) → Some x ≡ Some y → x ≡ y
some_same x y e = cc

some_none : {A : Type 0} (x : A) (o : Option A) → o ≡ Some x → o ≡ None → ⊥
some_none x o e z = let h : Some x ≡ None = sym e ∙ z in absurd (cc)

-- ---- a network breaks one rule first

pair_same : {A : Type 0} (p q : A × ℕ) → Some p ≡ Some q → p ≡ q
pair_same p q e = cc

same_place : {A : Type 0} (o : Option (A × ℕ)) (x y : A) (r s : ℕ) → o ≡ Some (x, r) → o ≡ Some (y, s) → (x ≡ y) × (r ≡ s)
same_place {A} o x y r s e f =
    let k = pair_same {A = A} (x, r) (y, s) (sym e ∙ f) in
    (ap (λ (z : A × ℕ). z.0) k, ap (λ (z : A × ℕ). z.1) k)

same_loop : {I E : Type 0} (n : Network I E) (i j : I) → FirstLoop n i → FirstLoop n j → i ≡ j
same_loop n i j f g = elim (cases_order f.0 g.0) as (λ _. i ≡ j) [
  | inl e ↦ some_same i j (sym f.1 ∙ ap (slice_get n.instances) e ∙ g.1)
  | inr (inl l) ↦ absurd (g.3 f.0 i l f.1 f.2)
  | inr (inr l) ↦ absurd (f.3 g.0 j l g.1 g.2)
]

same_spot : {I E : Type 0} (n : Network I E) (p q : Spot I E) → FirstBroken n p → FirstBroken n q → p ≡ q
same_spot n (AtWire w r) (AtWire v s) f g = let k = same_place (first_wire n) w v r s f g in ap (λ z. AtWire z r) k.0 ∙ ap (AtWire v) k.1
same_spot n (AtWire w r) (AtElement x s) f g = absurd (some_none (w, r) (first_wire n) f g.0)
same_spot n (AtWire w r) (AtInstance i) f g = absurd (some_none (w, r) (first_wire n) f g.0)
same_spot n (AtElement x r) (AtWire w s) f g = absurd (some_none (w, s) (first_wire n) g f.0)
same_spot n (AtElement x r) (AtElement y s) f g = let k = same_place (first_element n) x y r s f.1 g.1 in ap (λ z. AtElement z r) k.0 ∙ ap (AtElement y) k.1
same_spot n (AtElement x r) (AtInstance i) f g = absurd (some_none (x, r) (first_element n) f.1 g.1)
same_spot n (AtInstance i) (AtWire w s) f g = absurd (some_none (w, s) (first_wire n) g f.0)
same_spot n (AtInstance i) (AtElement x s) f g = absurd (some_none (x, s) (first_element n) g.1 f.1)
same_spot n (AtInstance i) (AtInstance j) f g = ap AtInstance (same_loop n i j f.2 g.2)

pub one_rule : {I E : Type 0} (n : Network I E) (instance_path : I → List ℕ) (element_path : E → List ℕ) (a b : ℕ) (s t : NetSpot) → BreaksFirst n instance_path element_path a s → BreaksFirst n instance_path element_path b t → (a ≡ b) × (s ≡ t)
one_rule n ip ep a b s t f g =
    let e = same_spot n f.spot g.spot f.first g.first in
    (f.rule_is ∙ ap rule_at e ∙ sym g.rule_is, f.place_is ∙ ap (place_of ip ep) e ∙ sym g.place_is)

pub not_accepted : {I E : Type 0} (n : Network I E) (instance_path : I → List ℕ) (element_path : E → List ℕ) (a : ℕ) (s : NetSpot) → BreaksFirst n instance_path element_path a s → Accepted n → ⊥
not_accepted n ip ep a s f h = h f.spot f.first

-- ---- under other names

found_in : {A F : Type 0} (x y : A) (r : F) (ys : List A) (o : Option F) (later : Option (A × F)) → found y o later ≡ Some (x, r) → (later ≡ Some (x, r) → In x ys) → In x (y ∷ ys)
found_in x y r ys None later e h = inr (h e)
found_in x y r ys (Some q) later e h = inl (sym (ap (λ z. z.0) (some_same (y, q) (x, r) e)))

first_in : {A F : Type 0} (f : A → Option F) (xs : List A) (x : A) (r : F) → first_of f xs ≡ Some (x, r) → In x xs
first_in f [] x r e = absurd (cc)
first_in f (y ∷ ys) x r e = found_in x y r ys (f y) (first_of f ys) e (first_in f ys x r)

-- the paths of a spot are the same
same_text : {I E J F : Type 0} (a : I → J) (b : E → F) (m : Network I E) (ip : I → List ℕ) (ep : E → List ℕ) (jp : J → List ℕ) (fp : F → List ℕ) (p : Spot I E) → Closed m → ((i : I) → In i m.instances → jp (a i) ≡ ip i) → ((x : E) → In x m.elements → fp (b x) ≡ ep x) → FirstBroken m p
    → place_of jp fp (rename_spot a b p) ≡ place_of ip ep p
same_text a b m ip ep jp fp (AtWire w r) c i x f =
    let k = first_in (wire_fault m) m.wires w r f in
    let l = x w.left (c.left w k) in
    let h = x w.right (c.right w k) in
    ap (λ t. Wire t (fp (b w.right))) l ∙ ap (λ t. Wire (ep w.left) t) h
same_text a b m ip ep jp fp (AtElement y r) c i x f = ap Path (x y (first_in (element_fault m) m.elements y r f.1))
same_text a b m ip ep jp fp (AtInstance j) c i x f = ap Path (i j (in_slice m.instances f.2.0 j f.2.1))

same_rule : {I E J F : Type 0} (a : I → J) (b : E → F) (p : Spot I E) → rule_at (rename_spot a b p) ≡ rule_at p
same_rule a b (AtWire w r) = refl
same_rule a b (AtElement x r) = refl
same_rule a b (AtInstance i) = refl

pub broken_under : {I E J F : Type 0} (a : I → J) (b : E → F) (m : Network I E) (n : Network J F) (ip : I → List ℕ) (ep : E → List ℕ) (jp : J → List ℕ) (fp : F → List ℕ) (rule : ℕ) (s : NetSpot) → Closed m → Renamed a b m n → ((i : I) → In i m.instances → jp (a i) ≡ ip i) → ((x : E) → In x m.elements → fp (b x) ≡ ep x)
    → BreaksFirst n jp fp rule s → BreaksFirst m ip ep rule s
broken_under a b m n ip ep jp fp rule s c r i x f =
    let p = broken_back a b m n f.spot c r f.first in
    record {
      spot = p.0;
      first = p.2;
      rule_is = f.rule_is ∙ ap rule_at p.1 ∙ same_rule a b p.0;
      place_is = f.place_is ∙ ap (place_of jp fp) p.1 ∙ same_text a b m ip ep jp fp p.0 c i x p.2;
    }

-- ---- a net

pub wire_refused : (n : Net) (k r : ℕ) (w : RawWire) (left right : List ℕ) → IsFirstWire n k r → slice_get n.wires k ≡ Some w → left ≡ element_path n w.left → right ≡ element_path n w.right
    → BreaksFirst (network_of n) (path_of n) (element_path n) r (Wire left right)
wire_refused n k r w left right f s l h =
    let e : f.wire ≡ w = some_same f.wire w (sym f.there ∙ s) in
    record {
      spot = AtWire (wire_in w) r;
      first = wire_first n k r f ∙ ap (λ v. Some (wire_in v, r)) e;
      rule_is = refl;
      place_is = ap (λ t. Wire t right) l ∙ ap (λ t. Wire (element_path n w.left) t) h;
    }

pub element_refused : (n : Net) (x r : ℕ) (path : List ℕ) → IsFirstElement n x r → path ≡ element_path n x → BreaksFirst (network_of n) (path_of n) (element_path n) r (Path path)
element_refused n x r path f e = record {
  spot = AtElement x r;
  first = (no_wire n (λ j w l s. f.wires j w l s), element_first n x r f);
  rule_is = refl;
  place_is = ap Path e;
}

pub loop_refused : (n : Net) (i : ℕ) (path : List ℕ) → IsUnbroken n → FirstLoop (network_of n) i → path ≡ path_of n i → BreaksFirst (network_of n) (path_of n) (element_path n) LOOP_WITHOUT_DELAY (Path path)
loop_refused n i path u f e =
    let z = none_first n u in
    record {
      spot = AtInstance i;
      first = (z.0, z.1, f);
      rule_is = refl;
      place_is = ap Path e;
    }

pub loop_inside : (n : Net) (i : ℕ) → FirstLoop (network_of n) i → i < length n.instances
loop_inside n i f = below_all (length n.instances) i (in_slice (numbers 0 (length n.instances)) f.0 i f.1)

-- what breaks no rule is accepted
pub unbroken_accepted : (n : Net) → IsUnbroken n → NoLoop (network_of n) → Accepted (network_of n)
unbroken_accepted n u l (AtWire w r) f = some_none (w, r) (first_wire (network_of n)) f (none_first n u).0
unbroken_accepted n u l (AtElement x r) f = some_none (x, r) (first_element (network_of n)) f.1 (none_first n u).1
unbroken_accepted n u l (AtInstance i) f = let h = f.2.2 in l h.0 h.1 h.3
