-- What the check of a net does at a wire and at an element.
use Rattle.std.proofs.Common.{inl, inr, ℕ, ◌+◌, ◌<◌, ◌≡◌, sym, ap, ◌∙◌, subst, arith, Bool, List, length, take, get_or, set, Option, Some, None, slice_get}
use Rattle.std.specs.Prelude.{option_map}
use Rattle.std.proofs.lemmas.Option.{slice_get-get_or, slice_get_within}
use Rattle.std.proofs.lemmas.Bool.{cases_eq}
use Rattle.cdl_network.specs.Rules.{sink_of, wire_fault, is_wanted, fault_by, element_fault}
use Rattle.cdl_connect.specs.declared.net.Net.{Net}
use Rattle.cdl_connect.specs.declared.net.RawWire.{RawWire}
use Rattle.cdl_connect.specs.declared.faults.SinkFault.{SinkFault}
use Rattle.cdl_connect.specs.declared.faults.SinkFault.TheVariants as sinks
use Rattle.cdl_connect.specs.declared.faults.WireFault.{WireFault}
use Rattle.cdl_connect.specs.declared.faults.NetFault.{NetFault}
use Rattle.cdl_connect.specs.Nets.{network_of, wire_in}
use Rattle.cdl_connect.specs.Faults.{FineWires, FineElements, IsFault}
use Rattle.cdl_connect.specs.inner.Numbers.{endings, wire_rule, sink_rule, fault_at_element}
use Rattle.cdl_connect.proofs.Counting.{counts_next, each_next}
use Rattle.cdl_connect.proofs.Networks.{arrivals_are}

-- what an index reads
pub at_index : {X : Type 0} (xs ys : List X) (k : ℕ) (d : X) → xs ≡ ys → k < length xs → slice_get ys k ≡ Some (get_or xs k d)
at_index xs ys k d e h = ap (λ l. slice_get l k) (sym e) ∙ slice_get-get_or xs k d h

same_read : {X : Type 0} (xs : List X) (k : ℕ) (x : X) → slice_get xs k ≡ Some x → get_or xs k x ≡ x
same_read xs k x e =
    let h : Some (get_or xs k x) ≡ Some x = sym (slice_get-get_or xs k x (slice_get_within xs k x e)) ∙ e in
    cc

-- one wire more
pub wire_counted : (n : Net) (k : ℕ) (w : RawWire) (counts : List ℕ) (end : ℕ) → slice_get n.wires k ≡ Some w → length counts ≡ length n.elements → end ≡ sink_of (network_of n) (wire_in w) → end < length n.elements
    → ((x : ℕ) → x < length n.elements → get_or counts x 0 ≡ endings n (take k n.wires) x)
    → (x : ℕ) → x < length n.elements → get_or (set counts end (get_or counts end 0 + 1)) x 0 ≡ endings n (take (k + 1) n.wires) x
wire_counted n k w counts end s l e h c =
    let f : RawWire → ℕ = λ v. sink_of (network_of n) (wire_in v) in
    let P : ℕ → Type 0 = λ z. (x : ℕ) → x < length n.elements → get_or (set counts z (get_or counts z 0 + 1)) x 0 ≡ endings n (take (k + 1) n.wires) x in
    let g : f w < length n.elements = subst (λ z. z < length n.elements) e h in
    subst P (sym e) (counts_next f n.wires k w counts (length n.elements) (slice_get_within n.wires k w s) (same_read n.wires k w s) l g c)

pub wire_fine : (n : Net) (k : ℕ) (w : RawWire) (r : Option WireFault) → slice_get n.wires k ≡ Some w → option_map wire_rule r ≡ wire_fault (network_of n) (wire_in w) → r ≡ None → FineWires n k → FineWires n (k + 1)
wire_fine n k w r s e z f = each_next (λ v. wire_fault (network_of n) (wire_in v)) n.wires k w (slice_get_within n.wires k w s) (same_read n.wires k w s) (sym e ∙ ap (option_map wire_rule) z) f

-- one element more
element_is : (n : Net) (x count : ℕ) (wanted : Bool) (r : Option SinkFault) → count ≡ endings n n.wires x → wanted ≡ is_wanted (network_of n) x → option_map sink_rule r ≡ fault_by wanted count → element_fault (network_of n) x ≡ option_map sink_rule r
element_is n x count wanted r c w e = ap (fault_by (is_wanted (network_of n) x)) (arrivals_are n x ∙ sym c) ∙ ap (λ t. fault_by t count) (sym w) ∙ sym e

named : (n : Net) (x : ℕ) (f : SinkFault) → FineWires n (length n.wires) → FineElements n x → x < length n.elements → element_fault (network_of n) x ≡ Some (sink_rule f) → IsFault n (fault_at_element f x)
named n x sinks.ManySources w g h e = record { wires = w; there = h; broken = e; first = g }
named n x sinks.NoSource w g h e = record { wires = w; there = h; broken = e; first = g }

pub sink_broken : (n : Net) (x count : ℕ) (wanted : Bool) (r : Option SinkFault) (f : SinkFault) (a : NetFault) → FineWires n (length n.wires) → FineElements n x → x < length n.elements → count ≡ endings n n.wires x → wanted ≡ is_wanted (network_of n) x
    → option_map sink_rule r ≡ fault_by wanted count → r ≡ Some f → a ≡ fault_at_element f x → IsFault n a
sink_broken n x count wanted r f a w g h c q e z b =
    subst (λ y. IsFault n y) (sym b) (named n x f w g h (element_is n x count wanted r c q e ∙ ap (option_map sink_rule) z))

pub sink_fine : (n : Net) (x count : ℕ) (wanted : Bool) (r : Option SinkFault) → FineElements n x → count ≡ endings n n.wires x → wanted ≡ is_wanted (network_of n) x → option_map sink_rule r ≡ fault_by wanted count → r ≡ None → FineElements n (x + 1)
sink_fine n x count wanted r g c q e z y l = elim (cases_eq y x) as (λ _. element_fault (network_of n) y ≡ None) [
  | inl same ↦ ap (element_fault (network_of n)) same ∙ element_is n x count wanted r c q e ∙ ap (option_map sink_rule) z
  | inr other ↦ g y (omega (arith, other))
]
