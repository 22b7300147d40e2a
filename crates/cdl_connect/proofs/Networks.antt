-- The network of a net: its counts, its first faults, and that it is well formed.
use Rattle.std.proofs.Common.{ℕ, zero, suc, ◌+◌, ◌<◌, ◌≡◌, ◌==◌, refl, sym, ap, ◌∙◌, subst, arith, true, false, List, [], length, Some, None, slice_get}
use Rattle.std.specs.Prelude.{option_map}
use Rattle.std.proofs.lemmas.Option.{slice_get_within}
use Rattle.cdl_source.specs.declared.rules.TheConstants.{TWO_SOURCES_OR_SINKS, TYPES_DIFFER, MORE_THAN_ONE_SOURCE, NO_SOURCE, UNITS_DIFFER}
use Rattle.cdl_network.specs.Lists.{In, Apart, numbers}
use Rattle.cdl_network.specs.Rules.{sink_of, wire_fault, element_fault, arrivals, is_wanted, first_wire, first_element}
use Rattle.cdl_network.specs.Dependence.{NoLoop}
use Rattle.cdl_network.specs.Planned.{AgreeAll, DirectOnly}
use Rattle.cdl_network.specs.Ticks.{Solves, Tick, Valuation}
use Rattle.cdl_network.specs.Closed.{Closed, Shaped}
use Rattle.cdl_network.specs.FirstBroken.{Spot, FirstBroken, AtWire, AtElement}
use Rattle.cdl_network.proofs.Rules.{count_map, first_map, rename_found}
use Rattle.cdl_network.proofs.Places.{count_is, first_at, first_not, slice_numbers, of_slice_numbers, in_numbers}
use Rattle.cdl_network.proofs.Inside.{in_slice}
use Rattle.cdl_network.proofs.Checking.{slice_in, arrives_once, checked_solution}
use Rattle.cdl_network.proofs.Renaming.{of_map}
use Rattle.cdl_network.proofs.WellFormed.{numbers_tell}
use Rattle.cdl_connect.specs.declared.net.Net.{Net}
use Rattle.cdl_connect.specs.declared.net.RawWire.{RawWire}
use Rattle.cdl_connect.specs.declared.faults.NetFault.{NetFault}
use Rattle.cdl_connect.specs.declared.faults.NetFault.TheVariants.{SameSide, TypesDiffer, UnitsDiffer, ManySources, NoSource, OutOfMemory}
use Rattle.cdl_connect.specs.Nets.{network_of, wire_in}
use Rattle.cdl_connect.specs.WellFormed.{IsWellFormed, IsIndexed}
use Rattle.cdl_connect.specs.Faults.{IsFirstWire, IsFirstElement, IsFault, IsUnbroken, IsSpotOf, IsChecked}
use Rattle.cdl_connect.specs.inner.Numbers.{endings}

-- how many wires end at an element, counted over the net's wires
pub arrivals_are : (n : Net) (x : ℕ) → arrivals (network_of n) x ≡ endings n n.wires x
arrivals_are n x =
    count_map wire_in (λ w. sink_of (network_of n) (wire_in w) == x) (λ w. sink_of (network_of n) w == x) n.wires (λ w i. refl)
    ∙ count_is (λ w. sink_of (network_of n) (wire_in w) == x) n.wires

pub number_at : (n k : ℕ) → k < n → slice_get (numbers 0 n) k ≡ Some k
number_at n k h = let e : 0 + k ≡ k = omega arith in slice_numbers 0 n k h ∙ ap Some e

pub in_all : (n k : ℕ) → k < n → In k (numbers 0 n)
in_all n k h = in_slice (numbers 0 n) k k (number_at n k h)

pub below_all : (n k : ℕ) → In k (numbers 0 n) → k < n
below_all n k i = let r = in_numbers 0 n k i in omega (arith, r.1)

-- the first broken rules
pub wire_first : (n : Net) (k r : ℕ) (f : IsFirstWire n k r) → first_wire (network_of n) ≡ Some (wire_in f.wire, r)
wire_first n k r f =
    first_map wire_in (λ w. wire_fault (network_of n) (wire_in w)) (wire_fault (network_of n)) n.wires (λ w i. refl)
    ∙ ap (option_map (rename_found wire_in)) (first_at (λ w. wire_fault (network_of n) (wire_in w)) n.wires k f.wire r f.there f.broken (λ j w l s. f.first j w l s))

pub no_wire : (n : Net) → ((j : ℕ) (w : RawWire) → j < length n.wires → slice_get n.wires j ≡ Some w → wire_fault (network_of n) (wire_in w) ≡ None) → first_wire (network_of n) ≡ None
no_wire n f =
    first_map wire_in (λ w. wire_fault (network_of n) (wire_in w)) (wire_fault (network_of n)) n.wires (λ w i. refl)
    ∙ ap (option_map (rename_found wire_in)) (first_not (λ w. wire_fault (network_of n) (wire_in w)) n.wires (λ j w s. f j w (slice_get_within n.wires j w s) s))

pub element_first : (n : Net) (x r : ℕ) → IsFirstElement n x r → first_element (network_of n) ≡ Some (x, r)
element_first n x r f =
    first_at (element_fault (network_of n)) (numbers 0 (length n.elements)) x x r (number_at (length n.elements) x f.there) f.broken
    (λ j y l s. let e : y ≡ j = let q = of_slice_numbers 0 (length n.elements) j y s in omega arith in ap (element_fault (network_of n)) e ∙ f.first j l)

pub no_element_broken : (n : Net) → ((x : ℕ) → x < length n.elements → element_fault (network_of n) x ≡ None) → first_element (network_of n) ≡ None
no_element_broken n f =
    first_not (element_fault (network_of n)) (numbers 0 (length n.elements))
    (λ j y s. f y (below_all (length n.elements) y (in_slice (numbers 0 (length n.elements)) j y s)))

at_same_wire : (n : Net) (k r : ℕ) (p : Spot ℕ ℕ) → IsFirstWire n k r → (w : RawWire) × (slice_get n.wires k ≡ Some w) × (p ≡ AtWire (wire_in w) r) → FirstBroken (network_of n) p
at_same_wire n k r p f s =
    let e : f.wire ≡ s.0 = let h : Some f.wire ≡ Some s.0 = sym f.there ∙ s.1 in cc in
    let q : AtWire (wire_in f.wire) r ≡ p = ap (λ w. AtWire (wire_in w) r) e ∙ sym s.2 in
    subst (λ o. FirstBroken (network_of n) o) q (wire_first n k r f)

at_same_element : (n : Net) (x r : ℕ) (p : Spot ℕ ℕ) → IsFirstElement n x r → p ≡ AtElement x r → FirstBroken (network_of n) p
at_same_element n x r p f e = subst (λ o. FirstBroken (network_of n) o) (sym e) (no_wire n (λ j w l s. f.wires j w l s), element_first n x r f)

pub fault_first : (n : Net) (f : NetFault) (p : Spot ℕ ℕ) → IsFault n f → IsSpotOf n f p → FirstBroken (network_of n) p
fault_first n (SameSide k) p f s = at_same_wire n k TWO_SOURCES_OR_SINKS p f s
fault_first n (TypesDiffer k) p f s = at_same_wire n k TYPES_DIFFER p f s
fault_first n (UnitsDiffer k) p f s = at_same_wire n k UNITS_DIFFER p f s
fault_first n (ManySources x) p f s = at_same_element n x MORE_THAN_ONE_SOURCE p f s
fault_first n (NoSource x) p f s = at_same_element n x NO_SOURCE p f s
fault_first n OutOfMemory p f s = absurd s

pub none_first : (n : Net) → IsUnbroken n → (first_wire (network_of n) ≡ None) × (first_element (network_of n) ≡ None)
none_first n u = (no_wire n (λ j w l s. u.wires j w l s), no_element_broken n (λ x l. u.elements x l))

-- well formed
pub apart_numbers : (a n : ℕ) → Apart (numbers a n)
apart_numbers a zero = tt
apart_numbers a (suc n) = (λ i. let r = in_numbers (suc a) n a i in omega (arith, r.0), apart_numbers (suc a) n)

pub net_closed : (n : Net) → IsIndexed n → Closed (network_of n)
net_closed n f = record {
  owner = λ x i. in_all (length n.instances) _ (f.numbers.owner x (below_all (length n.elements) x i));
  parent = λ i p h e. in_all (length n.instances) p (f.numbers.parent i p e);
  scope = λ w i.
      let v = of_map wire_in w n.wires i in
      let k = slice_in v.0 n.wires v.1 in
      subst (λ u. In u.scope (numbers 0 (length n.instances))) (sym v.2) (in_all (length n.instances) v.0.scope (f.numbers.scope k.0 v.0 k.1));
  left = λ w i.
      let v = of_map wire_in w n.wires i in
      let k = slice_in v.0 n.wires v.1 in
      subst (λ u. In u.left (numbers 0 (length n.elements))) (sym v.2) (in_all (length n.elements) v.0.left (f.numbers.left k.0 v.0 k.1));
  right = λ w i.
      let v = of_map wire_in w n.wires i in
      let k = slice_in v.0 n.wires v.1 in
      subst (λ u. In u.right (numbers 0 (length n.elements))) (sym v.2) (in_all (length n.elements) v.0.right (f.numbers.right k.0 v.0 k.1));
}

pub net_shaped : (n : Net) → IsIndexed n → Shaped (network_of n)
net_shaped n f = record {
  instances = numbers_tell;
  elements = numbers_tell;
  apart = apart_numbers 0 (length n.elements);
  composite = λ w i.
      let v = of_map wire_in w n.wires i in
      let k = slice_in v.0 n.wires v.1 in
      subst (λ u. (network_of n).elementary u.scope ≡ false) (sym v.2) (f.scopes k.0 v.0 k.1);
}

pub well_formed_indexed : (n : Net) → IsWellFormed n → IsIndexed n
well_formed_indexed n f = record { numbers = f.numbers; windows = f.windows; scopes = λ k w s. f.composite.scope k w s; instances = f.limits.instances; elements = f.limits.elements; wires = f.limits.wires }

pub one_source : (n : Net) (x : ℕ) → IsChecked n → x < length n.elements → is_wanted (network_of n) x ≡ true → arrivals (network_of n) x ≡ 1
one_source n x c h w = arrives_once (network_of n) x (none_first n c.unbroken).1 (in_all (length n.elements) x h) w

pub one_solution : (n : Net) (ts : List Tick) → IsChecked n → DirectOnly (network_of n) → NoLoop (network_of n)
    → (vs : List (Valuation ℕ)) × Solves (network_of n) [] ts vs × ((ws : List (Valuation ℕ)) → Solves (network_of n) [] ts ws → AgreeAll (network_of n) ws vs)
one_solution n ts c d o =
    let r = none_first n c.unbroken in
    checked_solution (network_of n) ts (net_closed n c.indexed) (net_shaped n c.indexed) r.0 r.1 d o
